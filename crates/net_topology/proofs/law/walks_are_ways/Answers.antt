use Rattle.net_topology.proofs.Laws.{walks_are_ways}
use Rattle.net_topology.proofs.law.walks_are_ways.Goals as goal

pub returns : goal.returns
returns c = walks_are_ways c.args.plan.now c.requires
