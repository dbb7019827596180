use Rattle.net_runs.proofs.Laws.{whole_runs_end}
use Rattle.net_runs.proofs.law.whole_runs_end_for_a_cause.Goals as goal

pub returns : goal.returns
returns c = whole_runs_end
