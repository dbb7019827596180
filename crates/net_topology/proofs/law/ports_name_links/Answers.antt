use Rattle.net_topology.proofs.Laws.{links_leave_by_ports, other_ports_lead_on, ports_name_links}
use Rattle.net_topology.proofs.law.ports_name_links.Goals as goal

pub returns-clause-named : goal.returns-clause-named
returns-clause-named c = ports_name_links c.args.plan.now c.requires

pub returns-clause-back : goal.returns-clause-back
returns-clause-back c = links_leave_by_ports c.args.plan.now

pub returns-clause-onward : goal.returns-clause-onward
returns-clause-onward c = other_ports_lead_on c.args.plan.now
