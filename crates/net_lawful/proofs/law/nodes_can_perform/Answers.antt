use Rattle.net_lawful.proofs.law.nodes_can_perform.Goals as goal
use Rattle.net_lawful.proofs.Laws.{nodes_can_perform}

pub returns : goal.returns
returns c = nodes_can_perform
