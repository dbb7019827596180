use Rattle.net_ways.proofs.law.what_is_picked_follows_the_queues.Goals as goal
use Rattle.net_ways.proofs.Laws.{blind, comes, joins, loses, moves}

pub returns : goal.returns
returns g c = record { blind = blind; joins = joins; moves = moves; comes = comes; loses = loses }
