-- The law, clause by clause.
use Rattle.stream_laws.proofs.law.nothing_is_given_after_a_gap.Goals as goal
use Rattle.stream_laws.proofs.Laws.{stops_at_loss}

pub returns : goal.returns
returns g c = record { law = stops_at_loss }
