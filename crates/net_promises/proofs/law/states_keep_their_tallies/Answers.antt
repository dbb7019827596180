use Rattle.net_promises.proofs.law.states_keep_their_tallies.Goals as goal
use Rattle.net_promises.proofs.Laws.{tallies_are_kept}

pub returns : goal.returns
returns c = tallies_are_kept
