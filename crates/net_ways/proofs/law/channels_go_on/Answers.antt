use Rattle.net_ways.proofs.law.channels_go_on.Goals as goal
use Rattle.net_ways.proofs.Laws.{channels_go_on}

pub returns : goal.returns
returns c = channels_go_on
