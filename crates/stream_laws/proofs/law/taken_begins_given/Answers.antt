-- The law, clause by clause.
use Rattle.stream_laws.proofs.law.taken_begins_given.Goals as goal
use Rattle.stream_laws.proofs.Laws.{taken_of_given, takes_of_buffered}

pub returns : goal.returns
returns g c = record { law = taken_of_given; buffered = takes_of_buffered }
