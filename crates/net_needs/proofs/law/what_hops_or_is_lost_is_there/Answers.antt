use Rattle.net_needs.proofs.law.what_hops_or_is_lost_is_there.Goals as goal
use Rattle.net_needs.proofs.Laws.{hop_is_ready, lose_is_ready}

pub returns : goal.returns
returns c = record { hop = hop_is_ready; lose = lose_is_ready }
