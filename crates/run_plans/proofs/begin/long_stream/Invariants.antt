use Rattle.std.proofs.Common.{ℕ, ◌<◌}
use Rattle.run_plans.specs.RunRefusals.{IsShort}
use Rattle.run_plans.proofs.begin.long_stream.Given as goal

abbrev pub invariant-loop-s : goal.invariant-loop-s
invariant-loop-s l = (k : ℕ) → k < l.s → IsShort l.plan k
