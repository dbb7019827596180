use Rattle.std.proofs.Common.{arith}
use Rattle.graph_core.proofs.Graphs.{few_edges, connect_kept}
use Rattle.graph_core.proofs.graph.Graph.connect.Goals as goal

pub overflow_cast-number : goal.overflow_cast-number
overflow_cast-number c =
    let s = c.self.inside in
    let few = few_edges s.kinds s.edges s.users s.committed s.is_committed c.self.invariant in
    omega arith

pub invariant_of-self-2 : goal.invariant_of-self-2
invariant_of-self-2 c =
    let s = c.self.inside in
    let free = rw (c.as_slice.ensures, c.as_slice-2.ensures) at c.in_default.ensures in
    rw c.in_ok-push.ensures.ok (connect_kept s.kinds s.edges s.users s.committed s.is_committed c.self.invariant c.args.from c.args.to free)
