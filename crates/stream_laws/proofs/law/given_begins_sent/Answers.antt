-- The law, clause by clause.
use Rattle.stream_laws.proofs.law.given_begins_sent.Goals as goal
use Rattle.stream_laws.proofs.Laws.{cut_in_order, epochwise}

pub returns : goal.returns
returns g c = record { law = epochwise; cuts = cut_in_order }
