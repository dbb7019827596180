use Rattle.net_lawful.proofs.Laws.{events_ask_nothing, stilled_is_unseen}
use Rattle.net_lawful.proofs.law.streams_stand_still_once_asked.Goals as goal

pub returns-clause-asks : goal.returns-clause-asks
returns-clause-asks c = events_ask_nothing

pub returns-clause-unseen : goal.returns-clause-unseen
returns-clause-unseen c = stilled_is_unseen
