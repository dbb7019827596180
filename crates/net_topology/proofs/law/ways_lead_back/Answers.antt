use Rattle.net_topology.proofs.Laws.{ways_lead_back}
use Rattle.net_topology.proofs.law.ways_lead_back.Goals as goal

pub returns : goal.returns
returns c = ways_lead_back c.args.plan.now c.requires
