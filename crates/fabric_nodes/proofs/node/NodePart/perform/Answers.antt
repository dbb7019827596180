use Rattle.fabric_nodes.proofs.NodeLemmas.{end-performed}
use Rattle.fabric_nodes.proofs.node.NodePart.perform.Goals as goal
use Rattle.fabric_nodes.proofs.node.NodePart.perform.Goals.{in-Crossbar, in-Adapter, in-End}

pub returns-clause-work : goal.returns-clause-work
returns-clause-work c = rw (← c.self.view_is) (elim c.match-self.branch [
  | in-Crossbar w ↦ rw (w.self-inside-is, w.result-is, w.m-is, w.in-Crossbar.is) w.perform.ensures.work
  | in-Adapter w ↦ rw (w.self-inside-is, w.result-is, w.m-is, w.in-Adapter.is) w.perform-in-Adapter.ensures.work
  | in-End w ↦ rw (w.self-inside-is, w.result-is, w.m-is, w.in-End.is)
      (end-performed w.in-End.node c.args.m.now _ _ w.perform-in-End.ensures.exit w.perform-in-End.ensures.last)
])
