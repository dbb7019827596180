use Rattle.net_rows.proofs.law.a_plan_can_begin.Goals as goal
use Rattle.net_rows.proofs.Laws.{possible}

pub returns : goal.returns
returns c = possible
