use Rattle.graph_core.proofs.Derived.{closed_is_unique}
use Rattle.graph_core.proofs.Settled.{settling_is_unique}
use Rattle.graph_core.proofs.law.settled_values_are_unique.Goals as goal

pub returns-clause-closed : goal.returns-clause-closed
returns-clause-closed c = closed_is_unique

pub returns-clause-settled : goal.returns-clause-settled
returns-clause-settled c = settling_is_unique
