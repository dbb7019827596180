use Rattle.net_topology.proofs.Laws.{routed_tables_lead, written_ways_lead}
use Rattle.net_topology.proofs.law.routed_tables_lead.Goals as goal

pub returns-clause-one : goal.returns-clause-one
returns-clause-one c = written_ways_lead c.args.plan.now c.requires

pub returns-clause-all : goal.returns-clause-all
returns-clause-all c = routed_tables_lead c.args.plan.now c.requires
