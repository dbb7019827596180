use Rattle.net_promises.proofs.law.streams_stay_within_capacity.Goals as goal
use Rattle.net_promises.proofs.Laws.{streams_are_within}

pub returns : goal.returns
returns c = streams_are_within
