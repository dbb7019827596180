use Rattle.graph_core.proofs.Graphs.{add_kept}
use Rattle.graph_core.proofs.graph.Graph.add.Goals as goal

pub invariant_of-self-2 : goal.invariant_of-self-2
invariant_of-self-2 c = let s = c.self.inside in rw c.in_ok-push.ensures.ok
    (add_kept s.kinds s.edges s.users s.committed s.is_committed c.self.invariant c.args.kind (rw (← c.self.view_is) at c.requires.room) c.requires.kind)
