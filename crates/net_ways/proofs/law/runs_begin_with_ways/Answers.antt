use Rattle.net_ways.proofs.law.runs_begin_with_ways.Goals as goal
use Rattle.net_ways.proofs.Laws.{begun_has_queues, begun_has_ways, built_has_queues, empty_is_placed, queues_stay}

pub returns : goal.returns
returns c = record { built = built_has_queues; begun = begun_has_queues; queues = queues_stay; ways = begun_has_ways; placed = empty_is_placed }
