use Rattle.net_runs.proofs.Laws.{resynchronising_runs_drain}
use Rattle.net_runs.proofs.law.resynchronising_runs_drain.Goals as goal

pub returns : goal.returns
returns c = resynchronising_runs_drain
