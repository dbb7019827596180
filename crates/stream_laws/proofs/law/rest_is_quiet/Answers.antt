-- The law, clause by clause.
use Rattle.stream_laws.proofs.law.rest_is_quiet.Goals as goal
use Rattle.stream_laws.proofs.Laws.{quiet_at_rest}

pub returns : goal.returns
returns g c = record { law = quiet_at_rest }
