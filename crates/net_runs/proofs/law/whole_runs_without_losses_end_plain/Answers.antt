use Rattle.net_runs.proofs.Laws.{whole_runs_end_plain}
use Rattle.net_runs.proofs.law.whole_runs_without_losses_end_plain.Goals as goal

pub returns : goal.returns
returns c = whole_runs_end_plain
