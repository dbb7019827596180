use Rattle.net_lawful.proofs.law.streams_join_blocks.Goals as goal
use Rattle.net_lawful.proofs.Laws.{blocks_give, blocks_take, no_rx_at_endpoints, plans_fit}

pub returns : goal.returns
returns c = record { plans = plans_fit; takes = blocks_take; gives = blocks_give; hosts = no_rx_at_endpoints }
