use Rattle.net_streams.proofs.Coming.{commands_act, samples_act, statuses_act}
use Rattle.net_streams.proofs.law.what_comes_is_an_act.Goals as goal

pub returns-clause-samples : goal.returns-clause-samples
returns-clause-samples c = samples_act

pub returns-clause-commands : goal.returns-clause-commands
returns-clause-commands c = commands_act

pub returns-clause-statuses : goal.returns-clause-statuses
returns-clause-statuses c = statuses_act
