-- Lists of found nodes, each but the first behind a port of one before it.
use Rattle.std.specs.Prelude.{◌≡◌, ◌==◌, ◌&&◌, ℕ, ◌*◌, ◌<◌, Bool, true, false, List, length, Option, Some, slice_index_or, position}
use Rattle.std.specs.List.{position_or_len}
use Rattle.chdr_words.specs.declared.epid.Epid.{Epid}
use Rattle.chdr_words.specs.declared.node_info.NodeKind.{NodeKind}
use Rattle.chdr_words.specs.declared.node_info.NodeKind.TheVariants.{Crossbar, Endpoint, Transport, Other}
use Rattle.net_topology.specs.Links.{end_of, end_port, start_of, start_port}
use Rattle.net_topology.specs.Tree.{epid_at}
use Rattle.net_topology.specs.declared.plan.Plan.{Plan}
use Rattle.walk_books.specs.declared.found.FoundNode.{FoundNode}

-- what stands for a node that isn't listed
abbrev pub no_node : FoundNode
no_node = record { instance = 0; kind = Crossbar; ports = 0; epid = record { 0 = 0 }; parent = 0; parent_port = 0; port = 0 }

abbrev pub found_at : List FoundNode → ℕ → FoundNode
found_at nodes k = slice_index_or nodes k no_node

-- ---- by numbers

abbrev pub is_number : ℕ → FoundNode → Bool
is_number x f = f.instance == x

-- the place of the first node with this number, and behind all if there is none
abbrev pub place_of : List FoundNode → ℕ → ℕ
place_of nodes x = position_or_len (is_number x) nodes

abbrev pub IsListed : List FoundNode → ℕ → Type 0
IsListed nodes x = place_of nodes x < length nodes

-- the parent of each node but the first is listed before it
abbrev pub HaveParents : List FoundNode → Type 0
HaveParents nodes = (k : ℕ) → 0 < k → k < length nodes → place_of nodes (found_at nodes k).parent < k

-- ---- by EPIDs

-- a host or an endpoint
abbrev pub is_end : NodeKind → Bool
is_end Crossbar = false
is_end Endpoint = true
is_end Transport = false
is_end (Other code) = false

abbrev pub has_end : Epid → FoundNode → Bool
has_end epid f = is_end f.kind && (f.epid.0 == epid.0)

-- the place of the first host or endpoint with an EPID
abbrev pub found_with : List FoundNode → Epid → Option ℕ
found_with nodes epid = position (has_end epid) nodes

-- ---- in a tree

-- it is the node behind this directed link, which leaves its parent
pub record IsFoundOver (tree : Plan) (f : FoundNode) (d : ℕ) : Type 0 where
  pub there : d < 2 * length tree.links
  pub parent : start_of tree.links d ≡ f.parent
  pub parent_port : start_port tree.links d ≡ f.parent_port
  pub node : end_of tree.links d ≡ f.instance
  pub port : end_port tree.links d ≡ f.port

-- a node of the list is behind some link
abbrev pub IsFound : Plan → FoundNode → Type 0
IsFound tree f = (d : ℕ) × IsFoundOver tree f d

-- these nodes are those of a tree, with their EPIDs
pub record AreFound (tree : Plan) (nodes : List FoundNode) : Type 0 where
  pub parents : HaveParents nodes
  pub links : (k : ℕ) → 0 < k → k < length nodes → IsFound tree (found_at nodes k)
  pub epids : (k : ℕ) → k < length nodes → is_end (found_at nodes k).kind ≡ true → epid_at tree.nodes (found_at nodes k).instance ≡ Some (found_at nodes k).epid
