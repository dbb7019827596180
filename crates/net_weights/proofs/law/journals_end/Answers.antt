use Rattle.net_weights.proofs.Laws.{journals_end}
use Rattle.net_weights.proofs.law.journals_end.Goals as goal

pub returns : goal.returns
returns c = journals_end
