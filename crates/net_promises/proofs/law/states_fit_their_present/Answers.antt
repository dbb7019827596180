use Rattle.net_promises.proofs.law.states_fit_their_present.Goals as goal
use Rattle.net_promises.proofs.Laws.{lawful_fits_present}

pub returns : goal.returns
returns c = lawful_fits_present
