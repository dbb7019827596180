-- The law, clause by clause.
use Rattle.stream_laws.proofs.law.credit_is_never_passed.Goals as goal
use Rattle.stream_laws.proofs.Laws.{known_and_outstanding, only_enters_raise, within_capacity}

pub returns : goal.returns
returns g c = record { law = within_capacity; known = known_and_outstanding; raised = only_enters_raise }
