use Rattle.net_topology.proofs.Laws.{epids_name_nodes}
use Rattle.net_topology.proofs.law.epids_name_nodes.Goals as goal

pub returns : goal.returns
returns c = epids_name_nodes c.args.plan.now c.requires
