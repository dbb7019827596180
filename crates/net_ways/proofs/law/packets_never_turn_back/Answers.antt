use Rattle.net_ways.proofs.Following.{passing-follows}
use Rattle.net_ways.proofs.law.packets_never_turn_back.Goals as goal

pub returns : goal.returns
returns c = passing-follows
