use Rattle.net_ways.proofs.law.tables_lead_over_queues.Goals as goal
use Rattle.net_ways.proofs.Laws.{ways_are_over_queues, ways_begin}

pub returns : goal.returns
returns c = record { queues = ways_are_over_queues; first = ways_begin }
