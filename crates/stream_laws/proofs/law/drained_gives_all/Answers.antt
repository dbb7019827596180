-- The law, clause by clause.
use Rattle.stream_laws.proofs.law.drained_gives_all.Goals as goal
use Rattle.stream_laws.proofs.Laws.{gives_all}

pub returns : goal.returns
returns g c = record { law = gives_all }
