use Rattle.std.proofs.Common.{ℕ, ◌<◌}
use Rattle.run_plans.specs.RunRefusals.{IsSmall}
use Rattle.run_plans.proofs.begin.big_stream.Given as goal

abbrev pub invariant-loop-s : goal.invariant-loop-s
invariant-loop-s l = (k : ℕ) → k < l.s → IsSmall l.plan k
