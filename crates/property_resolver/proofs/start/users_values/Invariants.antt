use Rattle.property_resolver.proofs.Started.{Started}
use Rattle.property_resolver.proofs.start.users_values.Given as goal

abbrev pub invariant-loop-place : goal.invariant-loop-place
invariant-loop-place l = Started l.graph.diagram l.values l.place
