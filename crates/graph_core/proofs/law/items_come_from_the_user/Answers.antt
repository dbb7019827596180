use Rattle.graph_core.proofs.Settled.{items_are_set}
use Rattle.graph_core.proofs.law.items_come_from_the_user.Goals as goal

pub returns : goal.returns
returns c = items_are_set
