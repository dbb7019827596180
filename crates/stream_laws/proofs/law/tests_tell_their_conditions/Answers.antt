-- The law, clause by clause.
use Rattle.stream_laws.proofs.law.tests_tell_their_conditions.Goals as goal
use Rattle.stream_laws.proofs.Laws.{order_is_tested, quiet_is_tested, stuck_is_tested}

pub returns : goal.returns
returns g c = record { quiet = quiet_is_tested; stuck = stuck_is_tested; order = order_is_tested }
