-- What is looked up in a tree: the link at each port, and the node of each EPID.
use Rattle.std.specs.Prelude.{◌≡◌, ℕ, ◌*◌, ◌/◌, ◌%◌, ◌<◌, ◌⊎◌, List, length, map, Option, None, Some}
use Rattle.std.specs.List.{range_with_len}
use Rattle.chdr_words.specs.declared.epid.Epid.{Epid}
use Rattle.net_topology.specs.Links.{link_at}
use Rattle.net_topology.specs.Tree.{epid_at, node_with}
use Rattle.net_topology.specs.declared.plan.NodePlan.{NodePlan}
use Rattle.net_topology.specs.declared.plan.Plan.{Plan}

-- how many ports a node has at most
abbrev pub most_ports : ℕ
most_ports = 32

-- the link that leaves node x by port p, at 32 x + p
abbrev pub leaving_links : Plan → List (Option ℕ)
leaving_links plan =
    map (λ i. link_at plan.links (i / most_ports) (i % most_ports)) (range_with_len 0 (most_ports * length plan.nodes))

-- the node of each EPID is held by its number
abbrev pub IsHolding : List NodePlan → (ℕ → Option ℕ) → Type 0
IsHolding nodes held = (epid : Epid) → held epid.0 ≡ node_with nodes epid

-- the node of an EPID is held, or none of the first nodes has it
abbrev pub HoldsBelow : List NodePlan → (ℕ → Option ℕ) → ℕ → Epid → Type 0
HoldsBelow nodes held n epid = (held epid.0 ≡ node_with nodes epid)
    ⊎ ((held epid.0 ≡ None) × ((x : ℕ) → x < n → epid_at nodes x ≡ Some epid → ⊥))
