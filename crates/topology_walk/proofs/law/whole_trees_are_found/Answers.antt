use Rattle.topology_walk.proofs.Laws as law
use Rattle.topology_walk.proofs.law.whole_trees_are_found.Goals as goal

pub returns : goal.returns
returns c = law.whole_trees_are_found
