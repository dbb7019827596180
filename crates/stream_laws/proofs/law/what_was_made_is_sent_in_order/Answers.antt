-- The law, clause by clause.
use Rattle.stream_laws.proofs.law.what_was_made_is_sent_in_order.Goals as goal
use Rattle.stream_laws.proofs.Laws.{sends_what_was_made}

pub returns : goal.returns
returns g c = record { law = sends_what_was_made }
