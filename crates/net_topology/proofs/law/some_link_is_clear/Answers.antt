use Rattle.net_topology.proofs.Laws.{ranks_are_bounded, ranks_fall, some_link_is_clear}
use Rattle.net_topology.proofs.law.some_link_is_clear.Goals as goal

pub returns-clause-falls : goal.returns-clause-falls
returns-clause-falls c = ranks_fall c.args.plan.now c.requires

pub returns-clause-bounded : goal.returns-clause-bounded
returns-clause-bounded c = ranks_are_bounded c.args.plan.now

pub returns-clause-clear : goal.returns-clause-clear
returns-clause-clear c = some_link_is_clear c.args.plan.now c.requires
