-- The law, clause by clause.
use Rattle.stream_laws.proofs.law.the_invariant_holds.Goals as goal
use Rattle.stream_laws.proofs.Laws.{holds_run}

pub returns : goal.returns
returns g c = record { law = holds_run }
