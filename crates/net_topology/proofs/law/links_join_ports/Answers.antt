use Rattle.net_topology.proofs.Laws.{links_are_few, links_join_ports}
use Rattle.net_topology.proofs.law.links_join_ports.Goals as goal

pub returns-clause-few : goal.returns-clause-few
returns-clause-few c = links_are_few c.args.plan.now c.requires

pub returns-clause-ends : goal.returns-clause-ends
returns-clause-ends c = links_join_ports c.args.plan.now c.requires
