-- The laws of specs/, with their proofs, for the proofs of other crates.
use Rattle.found_nodes.specs.Growing.{NodesAreListed, ParentsStayFirst, PlacesStay}
use Rattle.found_nodes.proofs.Growing.{listed-at, parents-first, place-stays}

pub nodes_are_listed : NodesAreListed
nodes_are_listed = listed-at

pub places_stay : PlacesStay
places_stay = place-stays

pub parents_stay_first : ParentsStayFirst
parents_stay_first = parents-first
