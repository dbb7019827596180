use Rattle.net_promises.proofs.law.runs_keep_their_promises.Goals as goal
use Rattle.net_promises.proofs.Laws.{lawful_keeps_promises, runs_keep_promises}

pub returns : goal.returns
returns c = record { lawful = lawful_keeps_promises; runs = runs_keep_promises }
