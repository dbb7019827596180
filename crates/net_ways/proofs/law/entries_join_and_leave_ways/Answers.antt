use Rattle.net_ways.proofs.law.entries_join_and_leave_ways.Goals as goal
use Rattle.net_ways.proofs.Laws.{enters_ahead, enters_back, loses_ahead, loses_back}

pub returns : goal.returns
returns c = record { enters_ahead = enters_ahead; enters_back = enters_back; loses_ahead = loses_ahead; loses_back = loses_back }
