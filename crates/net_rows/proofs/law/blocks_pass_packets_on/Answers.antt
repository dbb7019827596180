use Rattle.net_rows.proofs.law.blocks_pass_packets_on.Goals as goal
use Rattle.net_rows.proofs.Laws.{blocks}

pub returns : goal.returns
returns c = blocks
