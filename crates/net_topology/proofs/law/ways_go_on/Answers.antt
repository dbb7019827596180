use Rattle.net_topology.proofs.Laws.{ways_follow, ways_go_on, ways_never_turn}
use Rattle.net_topology.proofs.law.ways_go_on.Goals as goal

pub returns-clause-next : goal.returns-clause-next
returns-clause-next c = ways_go_on c.args.plan.now

pub returns-clause-turns : goal.returns-clause-turns
returns-clause-turns c = ways_never_turn c.args.plan.now

pub returns-clause-follows : goal.returns-clause-follows
returns-clause-follows c = ways_follow c.args.plan.now
