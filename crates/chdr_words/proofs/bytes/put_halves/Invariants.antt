use Rattle.std.proofs.Common.{◌≡◌, ◌+◌, ◌*◌, ◌++◌, take}
use Rattle.chdr_words.specs.Field.{halves_bytes}
use Rattle.chdr_words.proofs.bytes.put_halves.Given as goal

abbrev pub invariant-loop-k : goal.invariant-loop-k
invariant-loop-k l = take (l.at + 4 * l.k) l.out ≡ take l.at l.fn.out ++ halves_bytes (take l.k l.words)
