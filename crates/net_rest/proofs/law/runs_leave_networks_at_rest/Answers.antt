use Rattle.net_rest.proofs.Laws.{runs_rest}
use Rattle.net_rest.proofs.law.runs_leave_networks_at_rest.Goals as goal

pub returns : goal.returns
returns c = runs_rest
