use Rattle.net_growth.proofs.law.a_taking_only_takes.Goals as goal
use Rattle.net_growth.proofs.Laws.{seen_takes}

pub returns : goal.returns
returns c = seen_takes
