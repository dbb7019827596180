use Rattle.net_walks.proofs.Laws.{entries_are_entered}
use Rattle.net_walks.proofs.law.entries_are_entered.Goals as goal

pub returns : goal.returns
returns c = entries_are_entered
