-- The law, clause by clause.
use Rattle.endpoint_laws.proofs.law.what_is_spelled_means_what_was_meant.Goals as goal
use Rattle.endpoint_laws.proofs.Laws.{command_means, spelled_is_heard, status_spells}

pub returns : goal.returns
returns c = record { status = status_spells; heard = spelled_is_heard; command = command_means }
