-- The law, clause by clause.
use Rattle.stream_laws.proofs.law.spellings_tell.Goals as goal
use Rattle.stream_laws.proofs.Laws.{numbers_go_on, numbers_tell, reads_back, tells_totals}

pub returns : goal.returns
returns g c = record { counts = reads_back; totals = tells_totals; numbers = numbers_tell; next = numbers_go_on }
