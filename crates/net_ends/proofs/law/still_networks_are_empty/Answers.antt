use Rattle.net_ends.proofs.Laws.{still_is_empty}
use Rattle.net_ends.proofs.law.still_networks_are_empty.Goals as goal

pub returns : goal.returns
returns c = still_is_empty
