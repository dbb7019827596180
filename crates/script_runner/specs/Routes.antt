-- What a route command does in the state of a network.
use Rattle.std.specs.Prelude.{◌≡◌, ◌≢◌, ◌⊎◌, ℕ, Bool, true, List, [], ◌∷◌, ◌++◌, length, Option, None, Some, option_map}
use Rattle.chdr_words.specs.declared.epid.Epid.{Epid}
use Rattle.found_nodes.specs.Found.{AreFound}
use Rattle.net_machine.specs.Moves.{marked}
use Rattle.net_machine.specs.Nodes.{exits_of}
use Rattle.net_machine.specs.State.{State}
use Rattle.net_topology.specs.Links.{end_of}
use Rattle.net_topology.specs.declared.plan.Plan.{Plan}
use Rattle.net_writes.specs.Routes.{IsRouteWritten, LeadsBothWays, OthersStay, route_left}
use Rattle.route_writes.specs.Routing.{IsLosing, links_written, route_of, unknown_of, way_in}
use Rattle.route_writes.specs.Writes.{AreBetween, AreFirst, Route, Write, is_lost, wrote_all}
use Rattle.script_books.specs.declared.book.Book.{Book}
use Rattle.script_books.specs.declared.book.Book.TheVariants as book
use Rattle.script_books.specs.declared.refusal.Refusal.{Refusal}
use Rattle.script_books.specs.declared.refusal.Refusal.TheVariants as refusal
use Rattle.net_faults.specs.declared.fault.Fault.{Fault}
use Rattle.walk_books.specs.declared.found.Found.{Found}
use Rattle.walk_books.specs.declared.found.FoundNode.{FoundNode}
use Rattle.script_runner.specs.Talks.{OnHost}

-- the nodes that the last walk found; none if there was none
abbrev pub nodes_of : Option Found → List FoundNode
nodes_of None = []
nodes_of (Some found) = found.nodes

-- the nodes are those of this network, and the ends differ
pub record IsRoutable (tree : Plan) (nodes : List FoundNode) (a b : Epid) : Type 0 where
  pub found : AreFound tree nodes
  pub other : a ≢ b

-- ---- before anything is asked

-- the host's EPID, or that of the first end, or of the second, is one of no host or endpoint that was found
abbrev pub IsUnknownCause : List FoundNode → Epid → Epid → Epid → Option Refusal → Type 0
IsUnknownCause nodes host a b cause = cause ≡ option_map (λ epid. refusal.Unknown epid) (unknown_of nodes host a b)

abbrev pub IsWriteCause : Plan → List FoundNode → Epid → Epid → Epid → Option Refusal → Type 0
IsWriteCause tree nodes host a b = OnHost tree host (IsUnknownCause nodes host a b)

-- ---- once it is

-- The nodes are as writes of the route between these links leave them: there it is written, and entries of other EPIDs
-- than its ends and the host's are as they were.
pub record IsWrittenOver (route : Route) (ds : List ℕ) (w end : State) : Type 0 where
  pub nodes : end.nodes ≡ route_left route.tree route.x route.src route.a route.b ds w.nodes
  pub written : IsRouteWritten route.tree (exits_of end.nodes) route.a route.b ds
  pub others : OthersStay route.src route.a route.b w.nodes end.nodes

-- A write was asked at each node of the way, one after another, each in the state that the one before left, and none was
-- lost: the route is written, and tables lead from one end to the other and back.
pub record IsWritten (route : Route) (count : ℕ) (w end : State) : Type 0 where
  pub writes : List Write
  pub first : AreFirst route w writes
  pub between : AreBetween (way_in route) writes
  pub number : count ≡ length writes
  pub left : end ≡ wrote_all route w writes
  pub written : IsWrittenOver route (way_in route) w end
  pub leads : LeadsBothWays route.tree (exits_of end.nodes) route.a route.b

-- A write was asked at each node of the way before this one, and none was lost: there the route is written. One was asked
-- at this node too. It was lost, and the node isn't written, or its answer was, and it is. None was asked at a node
-- behind it.
pub record IsBroken (route : Route) (instance : ℕ) (w end : State) : Type 0 where
  pub before : List ℕ
  pub d : ℕ
  pub e : ℕ
  pub behind : List ℕ
  pub way : way_in route ≡ before ++ d ∷ e ∷ behind
  pub node : end_of route.tree.links d ≡ instance
  pub writes : List Write
  pub last : Write
  pub first : AreFirst route w (writes ++ last ∷ [])
  pub between : AreBetween (before ++ d ∷ []) writes
  pub at : (last.before ≡ d) × (last.behind ≡ e)
  pub lost : is_lost last ≡ true
  pub request : Bool
  pub losing : IsLosing request (wrote_all route w writes)
  pub left : end ≡ wrote_all route w (writes ++ last ∷ [])
  pub written : IsWrittenOver route (links_written request before d e) w end

-- what a host writes that nothing refuses, once the requests and answers to lose are named, and counted from 0
pub record IsRouted (Does : Route → State → State → Type 0) (nodes : List FoundNode) (host a b : Epid) (lose : List Fault) (w end : State) : Type 0 where
  pub free : IsWriteCause w.tree nodes host a b None
  pub does : Does (route_of w.tree host a b) (marked lose w) end

-- it is refused before anything is asked, and leaves all; or a write or its answer was lost
abbrev pub IsUnrouted : List FoundNode → Epid → Epid → Epid → List Fault → Refusal → State → State → Type 0
IsUnrouted nodes host a b lose why w end =
    (IsWriteCause w.tree nodes host a b (Some why) × (end ≡ w))
    ⊎ ((instance : ℕ) × (why ≡ refusal.Lost instance) × IsRouted (λ route. IsBroken route instance) nodes host a b lose w end)

-- the book of a route command over what was found, and the state that it leaves
abbrev pub IsRouting : List FoundNode → Epid → Epid → Epid → List Fault → State → Book → State → Type 0
IsRouting nodes host a b lose w (book.Refused why) end = IsUnrouted nodes host a b lose why w end
IsRouting nodes host a b lose w (book.Route count) end = IsRouted (λ route. IsWritten route count) nodes host a b lose w end
IsRouting nodes host a b lose w told end = ⊥
