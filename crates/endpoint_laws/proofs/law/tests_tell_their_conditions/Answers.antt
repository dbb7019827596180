-- The law, clause by clause.
use Rattle.endpoint_laws.proofs.law.tests_tell_their_conditions.Goals as goal
use Rattle.endpoint_laws.proofs.Laws.{credit_is_tested, order_is_tested, room_is_tested, stuck_is_tested}

pub returns : goal.returns
returns c = record { room = room_is_tested; credit = credit_is_tested; stuck = stuck_is_tested; order = order_is_tested }
