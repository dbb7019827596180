use Rattle.net_flows.proofs.Beginning.{moves_keep_steady}
use Rattle.net_flows.proofs.Staying.{steady_stays, unseen_flows}
use Rattle.net_flows.proofs.law.each_stream_stays_a_run.Goals as goal

pub returns-clause-events : goal.returns-clause-events
returns-clause-events c = steady_stays

pub returns-clause-moves : goal.returns-clause-moves
returns-clause-moves c = moves_keep_steady

pub returns-clause-unseen : goal.returns-clause-unseen
returns-clause-unseen c = unseen_flows
