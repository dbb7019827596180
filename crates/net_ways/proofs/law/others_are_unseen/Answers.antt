use Rattle.net_ways.proofs.law.others_are_unseen.Goals as goal
use Rattle.net_ways.proofs.Laws.{hops_unseen, joins_unseen, leaves_unseen, losses_unseen, nodes_unseen, streams_unseen, unseen_twice}

pub returns : goal.returns
returns c = record { twice = unseen_twice; streams = streams_unseen; nodes = nodes_unseen; joins = joins_unseen; leaves = leaves_unseen; hops = hops_unseen; losses = losses_unseen }
