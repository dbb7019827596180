use Rattle.net_streams.proofs.Taking.{seen_acts, taking_acts}
use Rattle.net_streams.proofs.law.what_is_taken_is_an_act.Goals as goal

pub returns-clause-seen : goal.returns-clause-seen
returns-clause-seen c = seen_acts

pub returns-clause-fed : goal.returns-clause-fed
returns-clause-fed c = taking_acts
