-- The law, clause by clause.
use Rattle.endpoint_laws.proofs.law.any_calls_do_as_on_whole_counts.Goals as goal
use Rattle.endpoint_laws.proofs.Laws.{any_calls_receive, any_calls_send}

pub returns : goal.returns
returns c = record { sending = any_calls_send; receiving = any_calls_receive }
