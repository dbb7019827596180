use Rattle.net_lone.proofs.Laws.{control_comes_back, control_talks}
use Rattle.net_lone.proofs.law.control_requests_come_back.Goals as goal

pub returns-clause-message : goal.returns-clause-message
returns-clause-message c = control_comes_back

pub returns-clause-talk : goal.returns-clause-talk
returns-clause-talk c = control_talks
