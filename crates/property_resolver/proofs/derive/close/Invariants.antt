use Rattle.std.proofs.Common.{◌-◌}
use Rattle.property_resolver.specs.Work.{most_work}
use Rattle.property_resolver.proofs.Closing.{Closing}
use Rattle.property_resolver.proofs.derive.close.Given as goal

abbrev pub invariant-loop-at : goal.invariant-loop-at
invariant-loop-at g l = Closing l.graph.diagram l.values l.next l.initial.steps l.steps

abbrev pub decreases-loop-at : goal.decreases-loop-at
decreases-loop-at g l = most_work l.graph.diagram - l.next
