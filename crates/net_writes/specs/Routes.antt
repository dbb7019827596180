-- Routes: what the writes at the nodes of a way leave, one after another.
use Rattle.std.specs.Prelude.{◌≡◌, ◌≢◌, ℕ, ◌<◌, ◌^◌, true, List, [], ◌∷◌, ◌++◌, length, Some}
use Rattle.chdr_words.specs.declared.epid.Epid.{Epid}
use Rattle.net_topology.specs.Leads.{Exits, Leads}
use Rattle.net_topology.specs.Links.{IsWay, back_of, end_of, end_port, start_port}
use Rattle.net_topology.specs.Parts.{way_of}
use Rattle.net_topology.specs.Tree.{FitsPlan, IsTree, node_with}
use Rattle.net_topology.specs.declared.plan.LinkPlan.{LinkPlan}
use Rattle.net_topology.specs.declared.plan.Plan.{Plan}
use Rattle.net_machine.specs.Nodes.{exits_of, is_host_at, own_epid}
use Rattle.net_machine.specs.State.{Node}
use Rattle.net_lone.specs.Stages.{HavePlaces}
use Rattle.net_walks.specs.Probes.{IsWalk}
use Rattle.net_walks.specs.Ways.{last_of}
use Rattle.net_writes.specs.Crossings.{Crossing, crossed_by}
use Rattle.net_writes.specs.Writing.{MayCross}

-- at the node between links d and e of a way from a to b: the port of arrival leads to a, and that of e leads to b
abbrev pub crossing_between : List LinkPlan → Epid → Epid → ℕ → ℕ → Crossing
crossing_between links a b d e = record { a = a; to_a = end_port links d; b = b; to_b = start_port links e }

-- the nodes when a write came over a way of these links
abbrev pub crossed_over : Plan → Epid → List ℕ → Crossing → List Node → List Node
crossed_over tree src [] it nodes = nodes
crossed_over tree src (d ∷ ds) it nodes = crossed_by tree src d ds it nodes

-- and when host x wrote the entries for a and b at each node between these links, in order
abbrev pub route_left : Plan → ℕ → Epid → Epid → Epid → List ℕ → List Node → List Node
route_left tree x src a b [] nodes = nodes
route_left tree x src a b (d ∷ []) nodes = nodes
route_left tree x src a b (d ∷ e ∷ ds) nodes = route_left tree x src a b (e ∷ ds)
    (crossed_over tree src (way_of tree.links x (end_of tree.links d)) (crossing_between tree.links a b d e) nodes)

-- At each node between these links, the entries for a and b are the next links of the way in either direction.
abbrev pub IsRouteWritten : Plan → Exits → Epid → Epid → List ℕ → Type 0
IsRouteWritten tree exits a b [] = Unit {0}
IsRouteWritten tree exits a b (d ∷ []) = Unit {0}
IsRouteWritten tree exits a b (d ∷ e ∷ ds) =
    (exits (end_of tree.links d) b ≡ Some (start_port tree.links e)) × (exits (end_of tree.links d) a ≡ Some (start_port tree.links (back_of d)))
    × IsRouteWritten tree exits a b (e ∷ ds)

-- entries of other EPIDs than these three are as they were
abbrev pub OthersStay : Epid → Epid → Epid → List Node → List Node → Type 0
OthersStay src a b nodes left =
    (y : ℕ) (epid : Epid) → epid ≢ a → epid ≢ b → epid ≢ src → exits_of left y epid ≡ exits_of nodes y epid

-- host x, of this EPID, writes a route from node y to node z, which have the EPIDs a and b
pub record IsRoute (tree : Plan) (x : ℕ) (src : Epid) (y : ℕ) (a : Epid) (z : ℕ) (b : Epid) : Type 0 where
  pub is_tree : IsTree tree
  pub fits : FitsPlan tree
  pub host : is_host_at tree x ≡ true
  pub own : own_epid tree x ≡ src
  pub from : node_with tree.nodes a ≡ Some y
  pub to : node_with tree.nodes b ≡ Some z
  pub other : a ≢ b
  pub a_fits : a.0 < 2 ^ 16
  pub b_fits : b.0 < 2 ^ 16

-- each of its writes goes a way that walkers go, and may be done
pub record MayWrite (tree : Plan) (x : ℕ) (src : Epid) (a b : Epid) (d e : ℕ) : Type 0 where
  pub first : ℕ
  pub behind : List ℕ
  pub way : way_of tree.links x (end_of tree.links d) ≡ first ∷ behind
  pub walk : IsWalk tree x first behind
  pub may : MayCross tree src (last_of first behind) (crossing_between tree.links a b d e)

abbrev pub MayBeWritten : Type 0
MayBeWritten = (tree : Plan) (x y z : ℕ) (src a b : Epid) (before : List ℕ) (d e : ℕ) (behind : List ℕ)
    → IsRoute tree x src y a z b → IsWay tree.links y z (before ++ d ∷ e ∷ behind) → MayWrite tree x src a b d e

-- what writes over the first links of the way left
pub record HasRoute (tree : Plan) (src a b : Epid) (ds : List ℕ) (nodes left : List Node) : Type 0 where
  pub written : IsRouteWritten tree (exits_of left) a b ds
  pub others : OthersStay src a b nodes left
  pub long : length left ≡ length nodes
  pub places : HavePlaces tree left

abbrev pub RoutesAreWritten : Type 0
RoutesAreWritten = (tree : Plan) (x y z : ℕ) (src a b : Epid) (ds behind : List ℕ) (nodes : List Node)
    → IsRoute tree x src y a z b → IsWay tree.links y z (ds ++ behind) → length nodes ≡ length tree.nodes → HavePlaces tree nodes
    → HasRoute tree src a b ds nodes (route_left tree x src a b ds nodes)

-- tables lead from one EPID to another, and back
pub record LeadsBothWays (tree : Plan) (exits : Exits) (a b : Epid) : Type 0 where
  pub forth : Leads tree exits a b
  pub back : Leads tree exits b a

-- A route that is written at each node of the way leads both ways.
abbrev pub WholeRoutesLead : Type 0
WholeRoutesLead = (tree : Plan) (exits : Exits) (y z : ℕ) (a b : Epid) → IsTree tree → node_with tree.nodes a ≡ Some y → node_with tree.nodes b ≡ Some z
    → a ≢ b → IsRouteWritten tree exits a b (way_of tree.links y z) → LeadsBothWays tree exits a b
