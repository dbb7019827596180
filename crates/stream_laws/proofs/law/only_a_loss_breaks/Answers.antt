-- The law, clause by clause.
use Rattle.stream_laws.proofs.law.only_a_loss_breaks.Goals as goal
use Rattle.stream_laws.proofs.Laws.{broken_by_loss, reports_gap}

pub returns : goal.returns
returns g c = record { law = broken_by_loss; reported = reports_gap }
