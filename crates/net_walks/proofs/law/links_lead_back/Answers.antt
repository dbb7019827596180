use Rattle.net_walks.proofs.Laws.{backs_are_there, backs_end, backs_start, ports_lead_back}
use Rattle.net_walks.proofs.law.links_lead_back.Goals as goal

pub returns-clause-starts : goal.returns-clause-starts
returns-clause-starts c = backs_start

pub returns-clause-ends : goal.returns-clause-ends
returns-clause-ends c = backs_end

pub returns-clause-there : goal.returns-clause-there
returns-clause-there c = backs_are_there

pub returns-clause-port : goal.returns-clause-port
returns-clause-port c = ports_lead_back
