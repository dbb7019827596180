-- The laws of a tree, each as a statement on one plan.
use Rattle.std.specs.Prelude.{◌≡◌, ◌≢◌, ◌↔◌, ℕ, ◌*◌, ◌^◌, ◌<◌, ◌≤◌, Bool, IsTrue, false, List, ◌∷◌, length, map, reverse, Some, is_some}
use Rattle.std.specs.Int.{bit_at}
use Rattle.chdr_words.specs.declared.epid.Epid.{Epid}
use Rattle.net_topology.specs.declared.plan.Plan.{Plan}
use Rattle.net_topology.specs.declared.check.PlanFault.{PlanFault}
use Rattle.net_topology.specs.Leads.{Exits, IsAlong, IsRouted, LeadsOver, Leads}
use Rattle.net_topology.specs.Links.{back_of, start_of, end_of, start_port, end_port, Walks, IsWay, NeverTurns, link_at}
use Rattle.net_topology.specs.Parts.{way_of}
use Rattle.net_topology.specs.Ports.{link_bits}
use Rattle.net_topology.specs.Ranks.{rank_of, MayFollow}
use Rattle.net_topology.specs.Tree.{IsTree, IsFault, epid_at, node_with, port_count}

-- between any two nodes there is a way
abbrev pub WaysAreThere : Plan → Type 0
WaysAreThere plan =
    (a b : ℕ) → a < length plan.nodes → b < length plan.nodes → IsWay plan.links a b (way_of plan.links a b)

-- and no other
abbrev pub WaysAreUnique : Plan → Type 0
WaysAreUnique plan = (a b : ℕ) (ds : List ℕ) → IsWay plan.links a b ds → ds ≡ way_of plan.links a b

-- behind the first link of a way lies the way from that link's end
abbrev pub WaysGoOn : Plan → Type 0
WaysGoOn plan =
    (a b d : ℕ) (ds : List ℕ) → IsWay plan.links a b (d ∷ ds) → IsWay plan.links (end_of plan.links d) b ds

-- a way never turns back
abbrev pub WaysNeverTurn : Plan → Type 0
WaysNeverTurn plan = (a b : ℕ) (ds : List ℕ) → IsWay plan.links a b ds → NeverTurns ds

-- each link of a way may follow the one before
abbrev pub WaysFollow : Plan → Type 0
WaysFollow plan =
    (a b d e : ℕ) (ds : List ℕ) → IsWay plan.links a b (d ∷ e ∷ ds) → MayFollow plan.links d e

-- a walk that never turns back is a way
abbrev pub WalksAreWays : Plan → Type 0
WalksAreWays plan =
    (a b : ℕ) (ds : List ℕ) → Walks plan.links (length plan.links) a b ds → NeverTurns ds → IsWay plan.links a b ds

-- the way back is the way reversed
abbrev pub WaysLeadBack : Plan → Type 0
WaysLeadBack plan =
    (a b : ℕ) → a < length plan.nodes → b < length plan.nodes → way_of plan.links b a ≡ reverse (map back_of (way_of plan.links a b))

-- the rank of directed links falls where a packet goes on
abbrev pub RanksFall : Plan → Type 0
RanksFall plan =
    (d e : ℕ) → d < 2 * length plan.links → MayFollow plan.links d e → rank_of plan e < rank_of plan d

-- a rank is at most the number of nodes
abbrev pub RanksAreBounded : Plan → Type 0
RanksAreBounded plan = (d : ℕ) → rank_of plan d ≤ length plan.nodes

-- of the directed links that pass a test, one leads to no link that passes it
abbrev pub SomeLinkIsClear : Plan → Type 0
SomeLinkIsClear plan =
    (busy : ℕ → Bool) (d : ℕ) → d < 2 * length plan.links → IsTrue (busy d) → (c : ℕ) × (c < 2 * length plan.links) × IsTrue (busy c) × ((e : ℕ) → MayFollow plan.links c e → busy e ≡ false)

-- there are at most as many links as nodes
abbrev pub LinksAreFew : Plan → Type 0
LinksAreFew plan = length plan.links ≤ length plan.nodes

-- a directed link starts at a node by a port of it, and ends at a node by a port of it
abbrev pub LinksJoinPorts : Plan → Type 0
LinksJoinPorts plan =
    (d : ℕ) → d < 2 * length plan.links → (start_of plan.links d < length plan.nodes) × (end_of plan.links d < length plan.nodes) × (start_port plan.links d < port_count plan.nodes (start_of plan.links d)) × (end_port plan.links d < port_count plan.nodes (end_of plan.links d))

-- a port names the directed link that leaves by it
abbrev pub PortsNameLinks : Plan → Type 0
PortsNameLinks plan =
    (d : ℕ) → d < 2 * length plan.links → link_at plan.links (start_of plan.links d) (start_port plan.links d) ≡ Some d

-- and no other
abbrev pub LinksLeaveByPorts : Plan → Type 0
LinksLeaveByPorts plan =
    (d node port : ℕ) → link_at plan.links node port ≡ Some d → (start_of plan.links d ≡ node) × (start_port plan.links d ≡ port) × (d < 2 * length plan.links)

-- a packet that leaves by another port than it came by goes on
abbrev pub OtherPortsLeadOn : Plan → Type 0
OtherPortsLeadOn plan =
    (d e port : ℕ) → port ≢ end_port plan.links d → link_at plan.links (end_of plan.links d) port ≡ Some e → MayFollow plan.links d e

-- bit p of a node's link bits is set exactly if port p has a link, and no bit above its ports is set
abbrev pub BitsTellLinks : Plan → Type 0
BitsTellLinks plan =
    (node ports : ℕ) → (link_bits plan.links node ports < 2 ^ ports) × ((port : ℕ) → port < ports → (bit_at (link_bits plan.links node ports) port ≡ 1) ↔ IsTrue (is_some (link_at plan.links node port)))

-- node x has the EPID exactly if `node_with` finds x
abbrev pub EpidsNameNodes : Plan → Type 0
EpidsNameNodes plan =
    (x : ℕ) (epid : Epid) → (node_with plan.nodes epid ≡ Some x) ↔ (epid_at plan.nodes x ≡ Some epid)

-- tables with the next link of each way lead from every EPID to every EPID of another node
abbrev pub RoutedTablesLead : Plan → Type 0
RoutedTablesLead plan =
    (exits : Exits) (a b : Epid) (x z : ℕ) → IsRouted plan exits → node_with plan.nodes a ≡ Some x → node_with plan.nodes b ≡ Some z → x ≢ z → Leads plan exits a b

-- tables with the next links of one way lead over it, whatever other entries they have
abbrev pub WrittenWaysLead : Plan → Type 0
WrittenWaysLead plan =
    (exits : Exits) (a b : Epid) (x z : ℕ) → IsAlong plan exits b (way_of plan.links x z) → node_with plan.nodes a ≡ Some x → node_with plan.nodes b ≡ Some z → x ≢ z → Leads plan exits a b

-- tables that lead over directed links lead along a way
abbrev pub LeadsAlongWays : Plan → Type 0
LeadsAlongWays plan =
    (exits : Exits) (epid : Epid) (d z : ℕ) (ds : List ℕ) → d < 2 * length plan.links → LeadsOver plan exits epid d ds z → IsWay plan.links (start_of plan.links d) z (d ∷ ds)

-- so where tables lead from one EPID to another, they lead along the way between their nodes
abbrev pub LeadsAreWays : Plan → Type 0
LeadsAreWays plan =
    (exits : Exits) (a b : Epid) (l : Leads plan exits a b) → l.first ∷ l.links ≡ way_of plan.links l.source l.target

-- and no EPID is reached from itself
abbrev pub NoneReachesItself : Plan → Type 0
NoneReachesItself plan = (exits : Exits) (a b : Epid) → Leads plan exits a b → a ≢ b

-- a tree has no refusal besides running out of memory
abbrev pub TreesHaveNoFault : Plan → Type 0
TreesHaveNoFault plan = (fault : PlanFault) → IsTree plan → IsFault plan fault → fault ≡ PlanFault.Memory

-- and any other plan has at most one
abbrev pub FaultsAreUnique : Plan → Type 0
FaultsAreUnique plan =
    (f g : PlanFault) → f ≢ PlanFault.Memory → g ≢ PlanFault.Memory → IsFault plan f → IsFault plan g → f ≡ g
