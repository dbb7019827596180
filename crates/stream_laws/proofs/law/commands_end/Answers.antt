-- The law, clause by clause.
use Rattle.stream_laws.proofs.law.commands_end.Goals as goal
use Rattle.stream_laws.proofs.Laws.{is_low, lowers, stays_low}

pub returns : goal.returns
returns g c = record { low = is_low; plain = stays_low; command = lowers }
