-- The laws of specs/, with their proofs, for the proofs of other crates.
use Rattle.topology_walk.specs.Whole.{WholeTreeIsFound}
use Rattle.topology_walk.proofs.Whole.{whole-tree}

pub whole_trees_are_found : WholeTreeIsFound
whole_trees_are_found = whole-tree
