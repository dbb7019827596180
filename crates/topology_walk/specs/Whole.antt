-- What a walk finds where no port is lost.
use Rattle.std.specs.Prelude.{◌≡◌, ◌==◌, ℕ, true, List, [], length, nat_lt, if◌then◌else◌}
use Rattle.std.specs.List.{count_by}
use Rattle.net_topology.specs.Tree.{FitsPlan, IsTree}
use Rattle.net_topology.specs.declared.plan.Plan.{Plan}
use Rattle.net_machine.specs.Nodes.{is_host_at}
use Rattle.topology_walk.specs.Finding.{IsFoundOf}
use Rattle.walk_books.specs.declared.found.Found.{Found}
use Rattle.walk_books.specs.declared.found.FoundNode.{FoundNode}

-- how often a node is listed
abbrev pub times_found : List FoundNode → ℕ → ℕ
times_found nodes y = count_by (λ (f : FoundNode). f.instance == y) nodes

-- each node of the tree is listed once, and nothing else is
abbrev pub AreAllNodes : Plan → List FoundNode → Type 0
AreAllNodes tree nodes = (y : ℕ) → times_found nodes y ≡ (if nat_lt y (length tree.nodes) then 1 else 0)

-- If no port is lost, the whole tree is found.
abbrev pub WholeTreeIsFound : Type 0
WholeTreeIsFound = (tree : Plan) (x : ℕ) (found : Found) → IsTree tree → FitsPlan tree → is_host_at tree x ≡ true → IsFoundOf tree x found → found.lost ≡ []
    → AreAllNodes tree found.nodes
