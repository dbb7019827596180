-- What a walk finds in a tree, but for the ports that are lost.
use Rattle.std.specs.Prelude.{◌≡◌, ◌==◌, ◌&&◌, not, ℕ, Bool, List, ◌∷◌, Option, None, is_none, option_map, filter_map, if◌then◌else◌}
use Rattle.std.specs.List.{count_by, flat_map, list_any, sum_by}
use Rattle.net_topology.specs.Links.{link_at}
use Rattle.net_topology.specs.declared.plan.Plan.{Plan}
use Rattle.topology_walk.specs.Nodes.{NodePort, first_found, found_over, ports_behind}
use Rattle.walk_books.specs.declared.found.Found.{Found}
use Rattle.walk_books.specs.declared.found.FoundNode.{FoundNode}
use Rattle.walk_books.specs.declared.found.LostPort.{LostPort}

-- a port is one of these
abbrev pub is_among : List LostPort → NodePort → Bool
is_among lost p = list_any (λ (l : LostPort). l.node == p.node && l.port == p.port) lost

-- the node behind a port, unless the port is lost
abbrev pub found_at : Plan → List LostPort → NodePort → Option FoundNode
found_at tree lost p = if is_among lost p then None else option_map (found_over tree) (link_at tree.links p.node p.port)

-- the nodes behind the further ports of a found node
abbrev pub behind : Plan → List LostPort → FoundNode → List FoundNode
behind tree lost f = filter_map (found_at tree lost) (ports_behind f)

-- a port has no link, and isn't lost
abbrev pub is_bare : Plan → List LostPort → NodePort → Bool
is_bare tree lost p = not (is_among lost p) && is_none (link_at tree.links p.node p.port)

-- how many of the further ports of a found node are so
abbrev pub bare_behind : Plan → List LostPort → FoundNode → ℕ
bare_behind tree lost f = count_by (is_bare tree lost) (ports_behind f)

-- The nodes begin with the host; then, for each of them in order, the nodes behind its further ports follow, but for
-- lost ones. So the list is determined by the tree, the host and the lost ports.
pub record IsFoundOf (tree : Plan) (x : ℕ) (found : Found) : Type 0 where
  pub nodes : found.nodes ≡ first_found tree x ∷ flat_map (behind tree found.lost) found.nodes
  pub bare : found.bare ≡ sum_by (bare_behind tree found.lost) found.nodes
