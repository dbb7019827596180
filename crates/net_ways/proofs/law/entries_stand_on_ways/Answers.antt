use Rattle.net_ways.proofs.law.entries_stand_on_ways.Goals as goal
use Rattle.net_ways.proofs.Laws.{places_stay}

pub returns : goal.returns
returns c = places_stay
