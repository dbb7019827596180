-- The law, clause by clause.
use Rattle.stream_laws.proofs.law.a_loss_is_mended.Goals as goal
use Rattle.stream_laws.proofs.Laws.{near_the_end}

pub returns : goal.returns
returns c = record { law = near_the_end }
