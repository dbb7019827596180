use Rattle.net_rows.proofs.law.numbers_wrap.Goals as goal
use Rattle.net_rows.proofs.Laws.{numbers}

pub returns : goal.returns
returns c = numbers
