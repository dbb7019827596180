use Rattle.std.proofs.Common.{ℕ, ◌<◌}
use Rattle.net_machine.specs.CanBegin.{HasStreams}
use Rattle.run_plans.proofs.begin.open_block.Given as goal

abbrev pub invariant-loop-b : goal.invariant-loop-b
invariant-loop-b l = (k : ℕ) → k < l.b → HasStreams l.plan k
