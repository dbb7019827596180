use Rattle.net_streams.proofs.Making.{making_acts}
use Rattle.net_streams.proofs.law.what_is_made_is_an_act.Goals as goal

pub returns : goal.returns
returns c = making_acts
