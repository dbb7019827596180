use Rattle.graph_core.proofs.Reached.{Swept}
use Rattle.graph_core.proofs.reach.sweep.Given as goal

abbrev pub invariant-loop-edge : goal.invariant-loop-edge
invariant-loop-edge l = Swept l.edges l.initial.marks l.marks l.moved l.edge-index
