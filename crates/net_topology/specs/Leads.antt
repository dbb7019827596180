-- Where tables lead packets.
use Rattle.std.specs.Prelude.{◌≡◌, ◌==◌, ℕ, Bool, true, false, List, [], ◌∷◌, Option, None, Some, slice_get, if◌then◌else◌}
use Rattle.std.specs.Option.{option_and_then, option_map_or}
use Rattle.chdr_words.specs.declared.epid.Epid.{Epid}
use Rattle.net_topology.specs.declared.plan.NodePlan.{NodePlan}
use Rattle.net_topology.specs.declared.plan.NodePlan.TheVariants.{Crossbar, Adapter, Host, Endpoint}
use Rattle.net_topology.specs.declared.plan.Plan.{Plan}
use Rattle.net_topology.specs.Links.{end_of, start_port, end_port, link_at}
use Rattle.net_topology.specs.Parts.{way_of}
use Rattle.net_topology.specs.Tree.{node_with}

-- the node passes packets on by a table
abbrev pub has_table : NodePlan → Bool
has_table (Crossbar ports) = true
has_table Adapter = true
has_table (Host epid) = false
has_table (Endpoint epid bank) = false

-- node x passes packets on by a table
abbrev pub HasTable : Plan → ℕ → Type 0
HasTable plan x = option_map_or has_table (slice_get plan.nodes x) false ≡ true

-- what the tables say: a node's port for an EPID
abbrev pub Exits : Type 0
Exits = ℕ → Epid → Option ℕ

-- the link behind a port, unless a packet that came over d came by that port
abbrev pub turned_to : Plan → ℕ → ℕ → Option ℕ
turned_to plan d port =
    if port == end_port plan.links d then None else link_at plan.links (end_of plan.links d) port

-- the directed link over which the tables send a packet on that came over d
abbrev pub sent_on : Plan → Exits → Epid → ℕ → Option ℕ
sent_on plan exits dst d =
    if option_map_or has_table (slice_get plan.nodes (end_of plan.links d)) false
    then option_and_then (turned_to plan d) (exits (end_of plan.links d) dst)
    else None

-- from directed link d the tables send a packet over these to node z
abbrev pub LeadsOver : Plan → Exits → Epid → ℕ → List ℕ → ℕ → Type 0
LeadsOver plan exits dst d [] z = end_of plan.links d ≡ z
LeadsOver plan exits dst d (e ∷ ds) z =
    (sent_on plan exits dst d ≡ Some e) × LeadsOver plan exits dst e ds z

-- the packet that leaves the node of EPID a by its one link comes by the tables to the node of EPID b
pub record Leads (plan : Plan) (exits : Exits) (a b : Epid) : Type 0 where
  pub source : ℕ
  pub target : ℕ
  pub first : ℕ
  pub links : List ℕ
  pub from : node_with plan.nodes a ≡ Some source
  pub to : node_with plan.nodes b ≡ Some target
  pub out : link_at plan.links source 0 ≡ Some first
  pub way : LeadsOver plan exits b first links target

-- behind each of these links but the last, the table has the port of the next one for the EPID
abbrev pub IsAlong : Plan → Exits → Epid → List ℕ → Type 0
IsAlong plan exits dst [] = Unit {0}
IsAlong plan exits dst (d ∷ []) = Unit {0}
IsAlong plan exits dst (d ∷ e ∷ ds) =
    (exits (end_of plan.links d) dst ≡ Some (start_port plan.links e)) × IsAlong plan exits dst (e ∷ ds)

-- each table has, for each EPID of another node, the port of the first link of the way there
abbrev pub IsRouted : Plan → Exits → Type 0
IsRouted plan exits =
    (x z d : ℕ) (ds : List ℕ) (epid : Epid) → HasTable plan x → node_with plan.nodes epid ≡ Some z → way_of plan.links x z ≡ d ∷ ds → exits x epid ≡ Some (start_port plan.links d)
