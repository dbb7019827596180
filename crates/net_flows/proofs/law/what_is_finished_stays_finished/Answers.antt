use Rattle.net_flows.proofs.Closing.{closed_stays, drained_stays, further_is_finished}
use Rattle.net_flows.proofs.Staying.{events_keep_ends}
use Rattle.net_flows.proofs.law.what_is_finished_stays_finished.Goals as goal

pub returns-clause-further : goal.returns-clause-further
returns-clause-further c = further_is_finished

pub returns-clause-closed : goal.returns-clause-closed
returns-clause-closed c = closed_stays

pub returns-clause-drained : goal.returns-clause-drained
returns-clause-drained c = drained_stays

pub returns-clause-events : goal.returns-clause-events
returns-clause-events c = events_keep_ends
