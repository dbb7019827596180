use Rattle.net_ways.proofs.law.hops_stay_on_ways.Goals as goal
use Rattle.net_ways.proofs.Laws.{hops_ahead, hops_back, hops_by_table}

pub returns : goal.returns
returns c = record { table = hops_by_table; ahead = hops_ahead; back = hops_back }
