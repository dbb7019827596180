use Rattle.net_ends.proofs.Laws.{made_is_bounded}
use Rattle.net_ends.proofs.law.producers_make_few_packets.Goals as goal

pub returns : goal.returns
returns c = made_is_bounded
