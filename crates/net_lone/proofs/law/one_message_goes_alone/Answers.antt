use Rattle.net_lone.proofs.Laws.{first_is_of_the_message, message_is_first, one_happens, one_is_enabled}
use Rattle.net_lone.proofs.law.one_message_goes_alone.Goals as goal

pub returns-clause-enabled : goal.returns-clause-enabled
returns-clause-enabled c = one_is_enabled

pub returns-clause-happens : goal.returns-clause-happens
returns-clause-happens c = one_happens

pub returns-clause-first : goal.returns-clause-first
returns-clause-first c = first_is_of_the_message

pub returns-clause-journal : goal.returns-clause-journal
returns-clause-journal c = message_is_first
