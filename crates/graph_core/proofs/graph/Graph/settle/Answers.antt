use Rattle.graph_core.proofs.Graphs.{settle_kept}
use Rattle.graph_core.proofs.graph.Graph.settle.Goals as goal

pub invariant_of-self : goal.invariant_of-self
invariant_of-self c =
    let s = c.self.inside in
    settle_kept s.kinds s.edges s.users s.committed s.is_committed c.self.invariant c.args.values (rw (← c.self.view_is) at c.requires)
