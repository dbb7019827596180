-- Lists of found nodes that grow at their end.
use Rattle.std.specs.Prelude.{◌≡◌, ℕ, ◌<◌, List, [], ◌∷◌, ◌++◌, length}
use Rattle.walk_books.specs.declared.found.FoundNode.{FoundNode}
use Rattle.found_nodes.specs.Found.{HaveParents, IsListed, found_at, place_of}

-- each node of a list is listed
abbrev pub NodesAreListed : Type 0
NodesAreListed = (nodes : List FoundNode) (k : ℕ) → k < length nodes → IsListed nodes (found_at nodes k).instance

-- what is listed keeps its place when nodes follow
abbrev pub PlacesStay : Type 0
PlacesStay = (nodes more : List FoundNode) (x : ℕ) → IsListed nodes x → place_of (nodes ++ more) x ≡ place_of nodes x

-- each parent still comes before its nodes when a node follows whose parent is listed
abbrev pub ParentsStayFirst : Type 0
ParentsStayFirst = (nodes : List FoundNode) (f : FoundNode) → HaveParents nodes → IsListed nodes f.parent → HaveParents (nodes ++ f ∷ [])
