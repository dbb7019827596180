use Rattle.net_streams.proofs.Losing.{commands_lost, samples_lost, statuses_lost}
use Rattle.net_streams.proofs.law.what_is_lost_is_an_act.Goals as goal

pub returns-clause-samples : goal.returns-clause-samples
returns-clause-samples c = samples_lost

pub returns-clause-commands : goal.returns-clause-commands
returns-clause-commands c = commands_lost

pub returns-clause-statuses : goal.returns-clause-statuses
returns-clause-statuses c = statuses_lost
