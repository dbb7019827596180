use Rattle.net_rest.proofs.Laws.{no_messages_come, no_messages_come_in_journals}
use Rattle.net_rest.proofs.law.no_messages_come.Goals as goal

pub returns-clause-events : goal.returns-clause-events
returns-clause-events c = no_messages_come

pub returns-clause-journals : goal.returns-clause-journals
returns-clause-journals c = no_messages_come_in_journals
