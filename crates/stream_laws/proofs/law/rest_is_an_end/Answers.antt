-- The law, clause by clause.
use Rattle.stream_laws.proofs.law.rest_is_an_end.Goals as goal
use Rattle.stream_laws.proofs.Laws.{ends_well}

pub returns : goal.returns
returns g c = record { law = ends_well }
