-- Which plans are trees, and why a plan is none.
use Rattle.std.specs.Prelude.{◌≡◌, ◌==◌, ◌&&◌, ◌||◌, ℕ, ◌-◌, ◌^◌, ◌<◌, ◌≤◌, Bool, false, IsTrue, List, length, min, All, Option, None, Some, IfSome, slice_get, position}
use Rattle.std.specs.Option.{option_and_then, option_map_or}
use Rattle.chdr_words.specs.declared.epid.Epid.{Epid}
use Rattle.net_topology.specs.declared.plan.LinkPlan.{LinkPlan}
use Rattle.net_topology.specs.declared.plan.NodePlan.{NodePlan}
use Rattle.net_topology.specs.declared.plan.NodePlan.TheVariants.{Crossbar, Adapter, Host, Endpoint}
use Rattle.net_topology.specs.declared.plan.Plan.{Plan}
use Rattle.net_topology.specs.declared.check.PlanFault.{PlanFault}
use Rattle.net_topology.specs.declared.check.PlanFault.TheVariants.{TooManyNodes, DuplicateEpid, BadPort, PortTwice, Cycle, Apart, BadLinkRoom, Memory}
use Rattle.net_topology.specs.Links.{link_of, IsJoined}

-- how many ports a node has
abbrev pub ports_of : NodePlan → ℕ
ports_of (Crossbar ports) = ports
ports_of Adapter = 2
ports_of (Host epid) = 1
ports_of (Endpoint epid bank) = 1

-- the EPID of an end node
abbrev pub epid_of : NodePlan → Option Epid
epid_of (Crossbar ports) = None
epid_of Adapter = None
epid_of (Host epid) = Some epid
epid_of (Endpoint epid bank) = Some epid

-- a node that a plan may have: an EPID isn't 0, a crossbar has 1 to 32 ports, a bank is below 16
abbrev pub FitsNode : NodePlan → Type 0
FitsNode (Crossbar ports) = (1 ≤ ports) × (ports ≤ 32)
FitsNode Adapter = Unit {0}
FitsNode (Host epid) = 0 < epid.0
FitsNode (Endpoint epid bank) = (0 < epid.0) × IfSome bank (λ number. number < 16)

-- the number of ports of node x: 0 if it isn't there
abbrev pub port_count : List NodePlan → ℕ → ℕ
port_count nodes x = option_map_or ports_of (slice_get nodes x) 0

-- the EPID of the node of this number
abbrev pub epid_at : List NodePlan → ℕ → Option Epid
epid_at nodes x = option_and_then epid_of (slice_get nodes x)

-- a node has the EPID
abbrev pub has_epid : Epid → NodePlan → Bool
has_epid epid (Crossbar ports) = false
has_epid epid Adapter = false
has_epid epid (Host own) = own.0 == epid.0
has_epid epid (Endpoint own bank) = own.0 == epid.0

-- the number of the first node with this EPID
abbrev pub node_with : List NodePlan → Epid → Option ℕ
node_with nodes epid = position (has_epid epid) nodes

-- an earlier node has this node's EPID
abbrev pub IsDuplicate : List NodePlan → ℕ → Epid → Type 0
IsDuplicate nodes x epid =
    (y : ℕ) × (y < x) × (epid_at nodes y ≡ Some epid) × (epid_at nodes x ≡ Some epid)

-- no two of the first nodes have one EPID
abbrev pub DistinctBelow : List NodePlan → ℕ → Type 0
DistinctBelow nodes n = (x : ℕ) (epid : Epid) → x < n → ¬ IsDuplicate nodes x epid

-- both nodes of the link are there, and have its ports
abbrev pub HasPorts : List NodePlan → LinkPlan → Type 0
HasPorts nodes l = (l.a_port < port_count nodes l.a) × (l.b_port < port_count nodes l.b)

-- the link uses this port of this node
abbrev pub uses_port : LinkPlan → ℕ → ℕ → Bool
uses_port l node port = (l.a == node && l.a_port == port) || (l.b == node && l.b_port == port)

-- both links use one port
abbrev pub shares_port : LinkPlan → LinkPlan → Bool
shares_port l m = uses_port l m.a m.a_port || uses_port l m.b m.b_port

-- an earlier link uses a port of link k
abbrev pub IsPortTwice : List LinkPlan → ℕ → Type 0
IsPortTwice links k = (j : ℕ) × (j < k) × IsTrue (shares_port (link_of links j) (link_of links k))

-- the nodes of link k are the same, or joined by earlier links
abbrev pub IsCycle : List LinkPlan → ℕ → Type 0
IsCycle links k = IsJoined links k (link_of links k).a (link_of links k).b

-- none of the refusals of a link holds of link k
pub record IsSound (plan : Plan) (k : ℕ) : Type 0 where
  pub ports : HasPorts plan.nodes (link_of plan.links k)
  pub once : ¬ IsPortTwice plan.links k
  pub apart : ¬ IsCycle plan.links k

-- and of no link before link k
abbrev pub SoundBelow : Plan → ℕ → Type 0
SoundBelow plan k = (j : ℕ) → j < k → IsSound plan j

-- no more nodes than the limit, with EPIDs of their own
pub record HasGoodNodes (plan : Plan) : Type 0 where
  pub few : length plan.nodes ≤ plan.limit
  pub distinct : DistinctBelow plan.nodes (length plan.nodes)

-- the links of the plan join this node to node 0
abbrev pub IsReached : Plan → ℕ → Type 0
IsReached plan x = IsJoined plan.links (length plan.links) 0 x

-- a plan of a tree: none of the refusals holds
pub record IsTree (plan : Plan) : Type 0 where
  pub nodes : HasGoodNodes plan
  pub links : SoundBelow plan (length plan.links)
  pub joined : (x : ℕ) → x < length plan.nodes → IsReached plan x
  pub room : (1 ≤ plan.room) × (plan.room ≤ 64)

-- what a caller sees to: each node fits, and the limit is at most 256
pub record FitsPlan (plan : Plan) : Type 0 where
  pub nodes : All FitsNode plan.nodes
  pub limit : plan.limit ≤ 256

-- what is known of a checked plan
pub record IsChecked (plan : Plan) : Type 0 where
  pub fits : FitsPlan plan
  pub tree : IsTree plan

-- this is the first refusal that holds, in the order of the cases
abbrev pub IsFault : Plan → PlanFault → Type 0
IsFault plan (TooManyNodes count) =
    (plan.limit < length plan.nodes) × (count ≡ min (length plan.nodes) (2 ^ 32 - 1))
IsFault plan (DuplicateEpid epid) =
    (length plan.nodes ≤ plan.limit) × ((x : ℕ) × (x < length plan.nodes) × DistinctBelow plan.nodes x × IsDuplicate plan.nodes x epid)
IsFault plan (BadPort k) =
    HasGoodNodes plan × (k < length plan.links) × SoundBelow plan k × (¬ HasPorts plan.nodes (link_of plan.links k))
IsFault plan (PortTwice k) =
    HasGoodNodes plan × (k < length plan.links) × SoundBelow plan k × HasPorts plan.nodes (link_of plan.links k) × IsPortTwice plan.links k
IsFault plan (Cycle k) =
    HasGoodNodes plan × (k < length plan.links) × SoundBelow plan k × HasPorts plan.nodes (link_of plan.links k) × (¬ IsPortTwice plan.links k) × IsCycle plan.links k
IsFault plan (Apart x) =
    HasGoodNodes plan × SoundBelow plan (length plan.links) × (x < length plan.nodes) × ((y : ℕ) → y < x → IsReached plan y) × (¬ IsReached plan x)
IsFault plan (BadLinkRoom room) =
    HasGoodNodes plan × SoundBelow plan (length plan.links) × ((x : ℕ) → x < length plan.nodes → IsReached plan x) × (¬ ((1 ≤ plan.room) × (plan.room ≤ 64))) × (room ≡ plan.room)
-- running out of memory has no cause here
IsFault plan Memory = Unit {0}
