use Rattle.net_machine.proofs.law.runs_join.Goals as goal
use Rattle.net_machine.proofs.Laws.{runs}

pub returns : goal.returns
returns c = runs
