use Rattle.net_topology.proofs.Laws.{leads_along_ways, leads_are_ways, none_reaches_itself}
use Rattle.net_topology.proofs.law.tables_lead_along_ways.Goals as goal

pub returns-clause-over : goal.returns-clause-over
returns-clause-over c = leads_along_ways c.args.plan.now c.requires

pub returns-clause-ways : goal.returns-clause-ways
returns-clause-ways c = leads_are_ways c.args.plan.now c.requires

pub returns-clause-itself : goal.returns-clause-itself
returns-clause-itself c = none_reaches_itself c.args.plan.now c.requires
