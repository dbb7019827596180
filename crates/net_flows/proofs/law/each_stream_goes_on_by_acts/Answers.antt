use Rattle.net_flows.proofs.Staying.{events_go_on, unseen_goes_on}
use Rattle.net_flows.proofs.law.each_stream_goes_on_by_acts.Goals as goal

pub returns-clause-events : goal.returns-clause-events
returns-clause-events c = events_go_on

pub returns-clause-unseen : goal.returns-clause-unseen
returns-clause-unseen c = unseen_goes_on
