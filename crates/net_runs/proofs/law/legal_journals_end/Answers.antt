use Rattle.net_runs.proofs.Laws.{lawful_weight_falls, legal_journals_end}
use Rattle.net_runs.proofs.law.legal_journals_end.Goals as goal

pub returns-clause-falls : goal.returns-clause-falls
returns-clause-falls c = lawful_weight_falls

pub returns-clause-journals : goal.returns-clause-journals
returns-clause-journals c = legal_journals_end
