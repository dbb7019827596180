-- The law, clause by clause.
use Rattle.stream_laws.proofs.law.runs_join.Goals as goal
use Rattle.stream_laws.proofs.Laws.{goes_on, joins}

pub returns : goal.returns
returns g c = record { act = goes_on; run = joins }
