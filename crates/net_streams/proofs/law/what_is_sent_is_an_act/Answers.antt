use Rattle.net_streams.proofs.Ordering.{command_acts}
use Rattle.net_streams.proofs.Sending.{enter_acts, report_acts}
use Rattle.net_streams.proofs.law.what_is_sent_is_an_act.Goals as goal

pub returns-clause-enters : goal.returns-clause-enters
returns-clause-enters c = enter_acts

pub returns-clause-commands : goal.returns-clause-commands
returns-clause-commands c = command_acts

pub returns-clause-reports : goal.returns-clause-reports
returns-clause-reports c = report_acts
