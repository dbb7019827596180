use Rattle.net_rows.proofs.law.three_packets_cross_a_crossbar.Goals as goal
use Rattle.net_rows.proofs.Laws.{journal}

pub returns : goal.returns
returns c = journal
