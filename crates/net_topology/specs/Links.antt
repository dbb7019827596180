-- Directed links, and walks over them: link k gives 2k, from a to b, and 2k + 1, from b to a.
use Rattle.std.specs.Prelude.{◌≡◌, ◌≢◌, ◌==◌, ◌&&◌, ℕ, ◌+◌, ◌-◌, ◌*◌, ◌/◌, ◌%◌, ◌<◌, List, [], ◌∷◌, length, map, Option, None, Some, option_map, slice_index_or, if◌then◌else◌}
use Rattle.net_topology.specs.declared.plan.LinkPlan.{LinkPlan}

-- what stands for a link that isn't there
abbrev pub no_link : LinkPlan
no_link = record { a = 0; a_port = 0; b = 0; b_port = 0 }

-- link k
abbrev pub link_of : List LinkPlan → ℕ → LinkPlan
link_of links k = slice_index_or links k no_link

-- the directed link of the same link the other way
abbrev pub back_of : ℕ → ℕ
back_of d = if d % 2 == 0 then d + 1 else d - 1

-- the node at which a directed link starts
abbrev pub start_of : List LinkPlan → ℕ → ℕ
start_of links d = if d % 2 == 0 then (link_of links (d / 2)).a else (link_of links (d / 2)).b

-- the node at which it ends
abbrev pub end_of : List LinkPlan → ℕ → ℕ
end_of links d = if d % 2 == 0 then (link_of links (d / 2)).b else (link_of links (d / 2)).a

-- the port by which it leaves its first node
abbrev pub start_port : List LinkPlan → ℕ → ℕ
start_port links d =
    if d % 2 == 0 then (link_of links (d / 2)).a_port else (link_of links (d / 2)).b_port

-- the port by which it comes to its last node
abbrev pub end_port : List LinkPlan → ℕ → ℕ
end_port links d =
    if d % 2 == 0 then (link_of links (d / 2)).b_port else (link_of links (d / 2)).a_port

-- these directed links of the first k links lead from node a to node b, each from where the one before ends
abbrev pub Walks : List LinkPlan → ℕ → ℕ → ℕ → List ℕ → Type 0
Walks links k a b [] = a ≡ b
Walks links k a b (d ∷ ds) = (d < 2 * k) × (start_of links d ≡ a) × Walks links k (end_of links d) b ds

-- the first k links join the two nodes; every node is joined to itself
abbrev pub IsJoined : List LinkPlan → ℕ → ℕ → ℕ → Type 0
IsJoined links k a b = (ds : List ℕ) × Walks links k a b ds

-- the node is none of these
abbrev pub Avoids : ℕ → List ℕ → Type 0
Avoids x [] = Unit {0}
Avoids x (y ∷ ys) = (x ≢ y) × Avoids x ys

-- no node comes twice
abbrev pub NoneTwice : List ℕ → Type 0
NoneTwice [] = Unit {0}
NoneTwice (x ∷ xs) = Avoids x xs × NoneTwice xs

-- the nodes that a walk from a passes, both ends among them
abbrev pub passed : List LinkPlan → ℕ → List ℕ → List ℕ
passed links a ds = a ∷ map (end_of links) ds

-- a way over the first k links: a walk that passes no node twice
abbrev pub IsWayOver : List LinkPlan → ℕ → ℕ → ℕ → List ℕ → Type 0
IsWayOver links k a b ds = Walks links k a b ds × NoneTwice (passed links a ds)

-- a way from node a to node b
abbrev pub IsWay : List LinkPlan → ℕ → ℕ → List ℕ → Type 0
IsWay links a b ds = IsWayOver links (length links) a b ds

-- no directed link is followed by the same link the other way
abbrev pub NeverTurns : List ℕ → Type 0
NeverTurns [] = Unit {0}
NeverTurns (d ∷ []) = Unit {0}
NeverTurns (d ∷ e ∷ ds) = (e ≢ back_of d) × NeverTurns (e ∷ ds)

-- the first directed link from number d on that leaves the node by the port
abbrev pub link_after : ℕ → List LinkPlan → ℕ → ℕ → Option ℕ
link_after d [] node port = None
link_after d (l ∷ ls) node port =
    if l.a == node && l.a_port == port then Some d
    else (if l.b == node && l.b_port == port then Some (d + 1) else link_after (d + 2) ls node port)

-- the directed link that leaves the node by the port
abbrev pub link_at : List LinkPlan → ℕ → ℕ → Option ℕ
link_at links node port = link_after 0 links node port

-- the node and the port at the other end of the link at this port
abbrev pub neighbour_at : List LinkPlan → ℕ → ℕ → Option (ℕ × ℕ)
neighbour_at links node port =
    option_map (λ d. (end_of links d, end_port links d)) (link_at links node port)
