use Rattle.std.proofs.Common.{◌≡◌, ℕ, ◌*◌, ◌<◌, ◌≤◌, false}
use Rattle.fabric_flags.specs.Set.{is_on}
use Rattle.fabric_flags.proofs.flags.next_on.Given as goal

-- no bit of the words so far is 1
abbrev pub invariant-loop-k : goal.invariant-loop-k
invariant-loop-k l = (j : ℕ) → l.n ≤ j → j < 64 * l.k → is_on l.words j ≡ false
