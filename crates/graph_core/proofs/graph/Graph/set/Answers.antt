use Rattle.std.proofs.Common.{arith}
use Rattle.graph_core.proofs.Graphs.{set_kept}
use Rattle.graph_core.proofs.graph.Graph.set.Goals as goal

pub invariant_of-self-2 : goal.invariant_of-self-2
invariant_of-self-2 c =
    let s = c.self.inside in
    let ports = rw c.as_slice.ensures at c.ports_at.ensures in
    set_kept s.kinds s.edges s.users s.committed s.is_committed c.self.invariant c.put.new.self c.args.at c.args.value (omega (arith, ports)) c.in_ok-put.ensures.put
