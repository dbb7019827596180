-- The law, clause by clause.
use Rattle.stream_laws.proofs.law.a_loss_can_halt.Goals as goal
use Rattle.stream_laws.proofs.Laws.{halted_run}

pub returns : goal.returns
returns c = record { law = halted_run }
