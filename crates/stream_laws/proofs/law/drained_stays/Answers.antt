-- The law, clause by clause.
use Rattle.stream_laws.proofs.law.drained_stays.Goals as goal
use Rattle.stream_laws.proofs.Laws.{stays_drained}

pub returns : goal.returns
returns g c = record { law = stays_drained }
