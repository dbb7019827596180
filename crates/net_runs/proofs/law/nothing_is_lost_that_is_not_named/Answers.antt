use Rattle.net_runs.proofs.Laws.{lossless_goes_on, nothing_named_nothing_lost}
use Rattle.net_runs.proofs.law.nothing_is_lost_that_is_not_named.Goals as goal

pub returns-clause-events : goal.returns-clause-events
returns-clause-events c = lossless_goes_on

pub returns-clause-runs : goal.returns-clause-runs
returns-clause-runs c = nothing_named_nothing_lost
