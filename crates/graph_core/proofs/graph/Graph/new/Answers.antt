use Rattle.graph_core.proofs.Graphs.{new_graph}
use Rattle.graph_core.proofs.graph.Graph.new.Goals as goal

pub invariant_of-result : goal.invariant_of-result
invariant_of-result c = rw (c.new.ensures, c.new-2.ensures, c.new-3.ensures, c.new-4.ensures) new_graph
