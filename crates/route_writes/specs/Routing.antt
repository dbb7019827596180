-- What a written route leaves, and what the call gives.
use Rattle.std.specs.Prelude.{◌≡◌, ℕ, Bool, true, false, List, [], ◌∷◌, ◌++◌, length, Option, None, Some, is_none, option_map, unwrap_or, Result, Ok, Err, if◌then◌else◌}
use Rattle.chdr_words.specs.declared.epid.Epid.{Epid}
use Rattle.net_topology.specs.Links.{end_of}
use Rattle.net_topology.specs.Tree.{node_with}
use Rattle.net_topology.specs.declared.plan.Plan.{Plan}
use Rattle.net_machine.specs.Nodes.{exits_of}
use Rattle.net_machine.specs.State.{State}
use Rattle.net_ways.specs.Ways.{way_between}
use Rattle.net_lone.specs.Control.{loses_answer, loses_request}
use Rattle.net_writes.specs.Routes.{IsRouteWritten, LeadsBothWays, OthersStay, route_left}
use Rattle.fabric_net.specs.Standing.{StandsFor}
use Rattle.walk_books.specs.declared.found.FoundNode.{FoundNode}
use Rattle.route_writes.specs.declared.fault.RouteFault.{RouteFault}
use Rattle.route_writes.specs.declared.fault.RouteFault.TheVariants.{Unknown, Lost, Memory}
use Rattle.route_writes.specs.declared.route.Numbers.{Numbers}
use Rattle.found_nodes.specs.Found.{found_at, found_with}
use Rattle.route_writes.specs.Writes.{AreBetween, Desk, HasAsked, Route, Write, is_lost, wrote_all}

-- the way of a route
abbrev pub way_in : Route → List ℕ
way_in route = way_between route.tree route.a route.b

-- what the tables of a net tell
abbrev pub entries : Desk → ℕ → Epid → Option ℕ
entries desk = exits_of desk.net.present.nodes

-- The nodes are as writes of the route between these links leave them: there it is written, and entries of other EPIDs
-- than its ends and the host's are as they were.
pub record IsWrittenOver (route : Route) (ds : List ℕ) (old new : Desk) : Type 0 where
  pub nodes : new.net.present.nodes ≡ route_left route.tree route.x route.src route.a route.b ds old.net.present.nodes
  pub written : IsRouteWritten route.tree (entries new) route.a route.b ds
  pub others : OthersStay route.src route.a route.b old.net.present.nodes new.net.present.nodes

-- A write was asked at each node of the way, and none was lost: the route is written, and tables lead from one end to the
-- other and back.
pub record HasRouted (route : Route) (count : ℕ) (old new : Desk) : Type 0 where
  pub writes : List Write
  pub asked : HasAsked route writes old new
  pub between : AreBetween (way_in route) writes
  pub number : count ≡ length writes
  pub left : IsWrittenOver route (way_in route) old new
  pub leads : LeadsBothWays route.tree (entries new) route.a route.b

-- the next request is to be lost, or the answer to it
abbrev pub IsLosing : Bool → State → Type 0
IsLosing true w = loses_request w ≡ true
IsLosing false w = (loses_request w ≡ false) × (loses_answer w ≡ true)

-- the links between which a route is written when the write at the node between d and e was lost, or its answer
abbrev pub links_written : Bool → List ℕ → ℕ → ℕ → List ℕ
links_written true before d e = before ++ d ∷ []
links_written false before d e = before ++ d ∷ e ∷ []

-- A write was asked at each node of the way before this one, and none was lost: there the route is written. One was asked
-- at this node too; where it was lost itself, this node isn't written, and where its answer was lost, it is. None was
-- asked at a node behind it.
pub record HasLost (route : Route) (instance : ℕ) (old new : Desk) : Type 0 where
  pub before : List ℕ
  pub d : ℕ
  pub e : ℕ
  pub behind : List ℕ
  pub way : way_in route ≡ before ++ d ∷ e ∷ behind
  pub node : end_of route.tree.links d ≡ instance
  pub writes : List Write
  pub last : Write
  pub asked : HasAsked route (writes ++ last ∷ []) old new
  pub between : AreBetween (before ++ d ∷ []) writes
  pub at : (last.before ≡ d) × (last.behind ≡ e)
  pub lost : is_lost last ≡ true
  pub request : Bool
  pub losing : (w : State) → StandsFor old.net.present w → w.banks ≡ old.banks → IsLosing request (wrote_all route w writes)
  pub left : IsWrittenOver route (links_written request before d e) old new

-- what writes along the way of a route give
abbrev pub IsRouted : Route → Desk → Result ℕ RouteFault → Desk → Type 0
IsRouted route old (Ok count) new = HasRouted route count old new
IsRouted route old (Err (Unknown epid)) new = ⊥
IsRouted route old (Err (Lost instance)) new = HasLost route instance old new
IsRouted route old (Err Memory) new = Unit {0}

-- the route of a host, by EPIDs
abbrev pub route_of : Plan → Epid → Epid → Epid → Route
route_of tree host a b = record { tree = tree; x = unwrap_or (node_with tree.nodes host) 0; src = host; a = a; b = b }

-- ---- by what was found

-- the number of the first found host or endpoint with an EPID
abbrev pub number_with : List FoundNode → Epid → Option ℕ
number_with nodes epid = option_map (λ k. (found_at nodes k).instance) (found_with nodes epid)

-- this is it; or there is none, and this is the EPID
abbrev pub IsKnown : List FoundNode → Epid → Result ℕ Epid → Type 0
IsKnown nodes epid (Ok x) = number_with nodes epid ≡ Some x
IsKnown nodes epid (Err unknown) = (number_with nodes epid ≡ None) × (unknown ≡ epid)

-- the first of these EPIDs that no found host or endpoint has
abbrev pub unknown_of : List FoundNode → Epid → Epid → Epid → Option Epid
unknown_of nodes host a b =
    if is_none (found_with nodes host) then Some host
    else (if is_none (found_with nodes a) then Some a else (if is_none (found_with nodes b) then Some b else None))

-- the numbers of nodes of these EPIDs, or the first EPID that none has
abbrev pub IsLocated : List FoundNode → Epid → Epid → Epid → Result Numbers Epid → Type 0
IsLocated nodes host a b (Ok at) = (unknown_of nodes host a b ≡ None)
    × (number_with nodes host ≡ Some at.host) × (number_with nodes a ≡ Some at.from) × (number_with nodes b ≡ Some at.to)
IsLocated nodes host a b (Err epid) = unknown_of nodes host a b ≡ Some epid

-- What the call gives: with an unknown EPID nothing is asked, and nothing changes.
abbrev pub IsWriting : List FoundNode → Epid → Epid → Epid → Desk → Result ℕ RouteFault → Desk → Type 0
IsWriting nodes host a b old (Ok count) new = (unknown_of nodes host a b ≡ None) × HasRouted (route_of old.net.present.tree host a b) count old new
IsWriting nodes host a b old (Err (Unknown epid)) new = (unknown_of nodes host a b ≡ Some epid) × (new ≡ old)
IsWriting nodes host a b old (Err (Lost instance)) new = (unknown_of nodes host a b ≡ None) × HasLost (route_of old.net.present.tree host a b) instance old new
IsWriting nodes host a b old (Err Memory) new = Unit {0}

-- it is so, unless there was no memory
abbrev pub UnlessMemory : Result ℕ RouteFault → Type 0 → Type 0
UnlessMemory (Ok count) fact = fact
UnlessMemory (Err (Unknown epid)) fact = fact
UnlessMemory (Err (Lost instance)) fact = fact
UnlessMemory (Err Memory) fact = Unit {0}
