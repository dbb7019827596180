-- The law, clause by clause.
use Rattle.stream_laws.proofs.law.epochs_are_few.Goals as goal
use Rattle.stream_laws.proofs.Laws.{few_epochs}

pub returns : goal.returns
returns g c = record { law = few_epochs }
