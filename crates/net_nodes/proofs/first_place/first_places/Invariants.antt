use Rattle.std.proofs.Common.{take, map}
use Rattle.net_nodes.specs.FirstPlaces.{IsOrderOf}
use Rattle.net_nodes.specs.Table.{no_exit}
use Rattle.net_nodes.proofs.first_place.first_places.Given as goal

-- the first places of the EPIDs so far are listed
abbrev pub invariant-loop-at : goal.invariant-loop-at
invariant-loop-at l = IsOrderOf l.order.items (map no_exit (take l.at l.epids))
