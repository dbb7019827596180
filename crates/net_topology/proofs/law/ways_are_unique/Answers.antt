use Rattle.net_topology.proofs.Laws.{ways_are_there, ways_are_unique}
use Rattle.net_topology.proofs.law.ways_are_unique.Goals as goal

pub returns-clause-there : goal.returns-clause-there
returns-clause-there c = ways_are_there c.args.plan.now c.requires

pub returns-clause-only : goal.returns-clause-only
returns-clause-only c = ways_are_unique c.args.plan.now c.requires
