use Rattle.found_nodes.proofs.Laws.{nodes_are_listed, parents_stay_first, places_stay}
use Rattle.found_nodes.proofs.law.lists_of_nodes_grow.Goals as goal

pub returns-clause-listed : goal.returns-clause-listed
returns-clause-listed c = nodes_are_listed

pub returns-clause-places : goal.returns-clause-places
returns-clause-places c = places_stay

pub returns-clause-parents : goal.returns-clause-parents
returns-clause-parents c = parents_stay_first
