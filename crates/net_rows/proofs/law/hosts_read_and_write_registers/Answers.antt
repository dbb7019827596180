use Rattle.net_rows.proofs.law.hosts_read_and_write_registers.Goals as goal
use Rattle.net_rows.proofs.Laws.{hosts}

pub returns : goal.returns
returns c = hosts
