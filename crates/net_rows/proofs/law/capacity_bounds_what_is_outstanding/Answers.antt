use Rattle.net_rows.proofs.law.capacity_bounds_what_is_outstanding.Goals as goal
use Rattle.net_rows.proofs.Laws.{credit}

pub returns : goal.returns
returns c = credit
