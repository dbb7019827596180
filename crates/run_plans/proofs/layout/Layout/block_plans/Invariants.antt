use Rattle.std.proofs.Common.{◌≡◌, map}
use Rattle.std.specs.List.{range_with_len}
use Rattle.run_plans.specs.Planned.{planned_at}
use Rattle.run_plans.proofs.layout.Layout.block_plans.Given as goal

abbrev pub invariant-loop-number : goal.invariant-loop-number
invariant-loop-number l = l.plans ≡ map (planned_at l.self l.graph.committed) (range_with_len 0 l.number)
