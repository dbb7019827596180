-- How a walk goes on: what is known of each node that was found, and what probes add.
use Rattle.std.specs.Prelude.{◌≡◌, ◌<◌, ◌+◌, ℕ, true, false, List, [], ◌∷◌, ◌++◌, length, map, Option, IsSome, filter_map, slice_index_or, if◌then◌else◌}
use Rattle.std.specs.List.{count_by, filter}
use Rattle.std.specs.Option.{option_map_or}
use Rattle.block_registers.specs.Registers.{Registers}
use Rattle.chdr_words.specs.declared.epid.Epid.{Epid}
use Rattle.chdr_words.specs.declared.node_info.NodeKind.TheVariants as kinds
use Rattle.net_topology.specs.Links.{IsWay, link_at, start_port}
use Rattle.net_topology.specs.declared.plan.Plan.{Plan}
use Rattle.net_machine.specs.declared.event.Event.{Event}
use Rattle.net_machine.specs.Moves.{asks}
use Rattle.net_machine.specs.Nodes.{is_host_at, own_epid}
use Rattle.net_machine.specs.State.{State}
use Rattle.net_present.specs.Present.{Present}
use Rattle.net_lone.specs.Runs.{IsFirst}
use Rattle.net_walks.specs.Ways.{last_of}
use Rattle.fabric_net.specs.NetView.{NetSeen}
use Rattle.fabric_net.specs.Standing.{StandsFor}
use Rattle.host_talk.specs.Settled.{IsSettledNow}
use Rattle.topology_walk.specs.Nodes.{NodePort, first_found, found_over, is_arrival}
use Rattle.topology_walk.specs.Probes.{AreFirst, Probe, finding, finds_bare, is_lost, journal_of, lost_of, packet_of, place_of, probed, probed_all}
use Rattle.walk_books.specs.declared.found.FoundNode.{FoundNode}
use Rattle.found_nodes.specs.Found.{HaveParents, found_at}
use Rattle.topology_walk.specs.declared.probes.Behind.{Behind}
use Rattle.topology_walk.specs.declared.probes.Behind.TheVariants.{Node, Bare, Lost}
use Rattle.topology_walk.specs.declared.walk.Walk.{Walk}

-- node x is the host of an EPID, and has a link
pub record IsSource (tree : Plan) (x : ℕ) (src : Epid) : Type 0 where
  pub host : is_host_at tree x ≡ true
  pub own : own_epid tree x ≡ src
  pub linked : IsSome (link_at tree.links x 0)

-- the node to which a way from host x leads, as it is found
abbrev pub found_along : Plan → ℕ → List ℕ → FoundNode
found_along tree x [] = first_found tree x
found_along tree x (d ∷ ds) = found_over tree (last_of d ds)

-- a found node, with the ports by which a walker leaves the nodes on the way to it
pub record IsKnown (tree : Plan) (x : ℕ) (f : FoundNode) (trail : List ℕ) : Type 0 where
  pub way : List ℕ
  pub is : IsWay tree.links x f.instance way
  pub node : f ≡ found_along tree x way
  pub made : trail ≡ map (start_port tree.links) way

-- by these ports a walker leaves the nodes on its way to what is behind a further port of a found node
pub record LeadsBehind (tree : Plan) (x : ℕ) (f : FoundNode) (port : ℕ) (ports : List ℕ) : Type 0 where
  pub trail : List ℕ
  pub known : IsKnown tree x f trail
  pub along : ports ≡ trail ++ port ∷ []
  pub there : port < f.ports
  pub other : is_arrival f port ≡ false

-- what is behind a port of a node of the tree
abbrev pub behind_port : Plan → ℕ → ℕ → Behind
behind_port tree node port = option_map_or (λ d. Node (found_over tree d)) (link_at tree.links node port) Bare

-- what a probe with this journal tells of it
abbrev pub behind_probe : Plan → Probe → Behind
behind_probe tree probe = if is_lost probe then Lost else behind_port tree probe.node probe.port

-- ---- one probe

-- from a state for which the net stood: it is asked, and leaves a state for which the net stands
pub record IsProbed (tree : Plan) (src : Epid) (x : ℕ) (probe : Probe) (new : Present) (left : List (Option Registers)) (w : State) : Type 0 where
  pub first : IsFirst (asks x (packet_of tree src x probe) w) probe.journal
  pub stands : StandsFor new (probed tree src x w probe)
  pub banks : (probed tree src x w probe).banks ≡ left

-- host x probed what is behind a port of a node
pub record HasProbed (tree : Plan) (src : Epid) (x : ℕ) (old : NetSeen) (banks : List (Option Registers)) (node port : ℕ) (behind : Behind) (new : NetSeen) (left : List (Option Registers)) : Type 0 where
  pub journal : List Event
  pub written : new.journal ≡ old.journal ++ journal
  pub tells : behind ≡ behind_probe tree (record { node = node; port = port; journal = journal })
  pub each : (w : State) → StandsFor old.present w → w.banks ≡ banks → IsProbed tree src x (record { node = node; port = port; journal = journal }) new.present left w
  pub settled : IsSettledNow new.present
  pub same : new.present.tree ≡ tree
  pub kept : left ≡ banks

-- ---- many probes

-- a walk on its way, its net, and the registers in the slots
pub record Desk : Type 0 where
  pub walk : Walk
  pub net : NetSeen
  pub banks : List (Option Registers)

-- the walk from a host, which alone is found
abbrev pub walk_from : ℕ → Epid → Walk
walk_from x src = record {
  found = record {
    nodes = record { instance = x; kind = kinds.Endpoint; ports = 1; epid = src; parent = x; parent_port = 0; port = 0 } ∷ [];
    bare = 0;
    lost = [];
  };
  trails = [] ∷ [];
}

-- what is behind a port of a node, to which this trail leads, is added
abbrev pub added : Walk → ℕ → ℕ → List ℕ → Behind → Walk
added walk node port trail (Node f) = record {
  found = record walk.found { nodes = walk.found.nodes ++ f ∷ [] };
  trails = walk.trails ++ trail ∷ [];
}
added walk node port trail Bare = record walk { found = record walk.found { bare = walk.found.bare + 1 } }
added walk node port trail Lost = record walk { found = record walk.found { lost = walk.found.lost ++ record { node = node; port = port } ∷ [] } }

-- each found node is known by its trail, and its parent was found before it
pub record AreKnown (tree : Plan) (x : ℕ) (nodes : List FoundNode) (trails : List (List ℕ)) : Type 0 where
  pub many : length trails ≡ length nodes
  pub each : (k : ℕ) → k < length nodes → IsKnown tree x (found_at nodes k) (slice_index_or trails k [])
  pub parents : HaveParents nodes

-- from a state for which the net stood
pub record AreProbed (tree : Plan) (src : Epid) (x : ℕ) (probes : List Probe) (new : Present) (left : List (Option Registers)) (w : State) : Type 0 where
  pub first : AreFirst tree src x w probes
  pub stands : StandsFor new (probed_all tree src x w probes)
  pub banks : (probed_all tree src x w probes).banks ≡ left

-- a walk goes on from one moment to another by probes behind these ports, and what they find is added
pub record WalksOn (tree : Plan) (src : Epid) (x : ℕ) (asked : List NodePort) (old new : Desk) : Type 0 where
  pub probes : List Probe
  pub places : map place_of probes ≡ asked
  pub nodes : new.walk.found.nodes ≡ old.walk.found.nodes ++ filter_map (finding tree) probes
  pub bare : new.walk.found.bare ≡ old.walk.found.bare + count_by (finds_bare tree) probes
  pub lost : new.walk.found.lost ≡ old.walk.found.lost ++ map lost_of (filter is_lost probes)
  pub written : new.net.journal ≡ old.net.journal ++ journal_of probes
  pub each : (w : State) → StandsFor old.net.present w → w.banks ≡ old.banks → AreProbed tree src x probes new.net.present new.banks w
  pub known : AreKnown tree x new.walk.found.nodes new.walk.trails
  pub settled : IsSettledNow new.net.present
  pub same : new.net.present.tree ≡ tree
  pub kept : new.banks ≡ old.banks
