use Rattle.net_lone.proofs.Laws.{answered_is_settled, no_request_waits, one_end}
use Rattle.net_lone.proofs.law.one_message_has_one_end.Goals as goal

pub returns-clause-once : goal.returns-clause-once
returns-clause-once c = one_end

pub returns-clause-settled : goal.returns-clause-settled
returns-clause-settled c = answered_is_settled

pub returns-clause-none : goal.returns-clause-none
returns-clause-none c = no_request_waits
