-- What becomes of a probe: a walker that asks a node, or finds a port without a link.
use Rattle.std.specs.Prelude.{◌≡◌, ◌≢◌, ◌||◌, ℕ, ◌<◌, ◌^◌, true, List, [], ◌∷◌, ◌++◌, map, None, Some, if◌then◌else◌}
use Rattle.chdr_packets.specs.declared.packet.Packet.{Packet}
use Rattle.chdr_words.specs.declared.epid.Epid.{Epid}
use Rattle.chdr_words.specs.declared.management.MgmtOp.{MgmtOp}
use Rattle.net_topology.specs.Links.{IsWay, NoneTwice, end_of, end_port, link_at}
use Rattle.net_topology.specs.Tree.{FitsPlan, IsTree, port_count}
use Rattle.net_topology.specs.declared.plan.Plan.{Plan}
use Rattle.net_machine.specs.declared.event.Event.{Event}
use Rattle.net_machine.specs.Nodes.{is_host_at, own_epid}
use Rattle.net_machine.specs.State.{Node, State}
use Rattle.net_lone.specs.Control.{has_answered, has_asked, loses_answer, loses_request}
use Rattle.net_lone.specs.Runs.{Ends, has_loss}
use Rattle.net_lone.specs.Stages.{Answered, Asking, Gone, IsSettled, Lone, lone}
use Rattle.net_walks.specs.Walks.{collector, hops_over, information, inquiry, onward, returner, walker}
use Rattle.net_walks.specs.Ways.{GoesOver, last_of, left_by}

-- the host x of this EPID sends walkers
pub record SendsWalkers (w : State) (x : ℕ) (src : Epid) : Type 0 where
  pub host : is_host_at w.tree x ≡ true
  pub own : own_epid w.tree x ≡ src
  pub some : 0 < src.0
  pub fits : FitsPlan w.tree

-- they go over its link d and then over these, to each node once
pub record IsWalk (tree : Plan) (x d : ℕ) (ds : List ℕ) : Type 0 where
  pub first : link_at tree.links x 0 ≡ Some d
  pub goes : GoesOver tree d ds
  pub once : NoneTwice (map (end_of tree.links) (d ∷ ds))

-- The way from a host to any node is such a walk.
abbrev pub WaysAreWalks : Type 0
WaysAreWalks = (tree : Plan) (x z d : ℕ) (ds : List ℕ) → IsTree tree → FitsPlan tree → is_host_at tree x ≡ true → IsWay tree.links x z (d ∷ ds)
    → IsWalk tree x d ds

-- What becomes of a walker that leaves these nodes and comes back with these hops. It is lost, or what comes back is, or
-- that comes to the host.
abbrev pub return_end : State → ℕ → List Node → Epid → List (List MgmtOp) → Lone
return_end w x left src hops =
    if loses_request w then lone (has_asked w) Gone
    else lone (has_answered (record (has_asked w) { nodes = left })) (if loses_answer w then Gone else Answered x (returner src hops))

-- and of one that leaves its entries on the way alone
abbrev pub walk_end : State → ℕ → ℕ → List ℕ → Epid → List (List MgmtOp) → Lone
walk_end w x d ds src hops = return_end w x (left_by w.tree src d ds w.nodes) src hops

-- a journal of a request of host x to this end, which has a loss exactly where the request or its answer is lost
pub record WalkEnds (w : State) (x : ℕ) (p : Packet) (end : Lone) : Type 0 where
  pub journal : List Event
  pub ends : Ends (lone w (Asking x p)) journal end
  pub loss : has_loss journal ≡ (loses_request w || loses_answer w)

-- A probe of the node at the end of a way comes back with the node's information.
abbrev pub ProbesComeBack : Type 0
ProbesComeBack = (w : State) (x d : ℕ) (ds : List ℕ) (src : Epid) → IsSettled w → SendsWalkers w x src → IsWalk w.tree x d ds
    → WalkEnds w x (walker src (hops_over w.tree.links (d ∷ ds) ++ inquiry ∷ collector ∷ []))
    (walk_end w x d ds src (information w.tree (last_of d ds) ∷ []))

-- A probe of what is behind a port of that node comes back with one hop more, if the port has no link.
abbrev pub BarePortsSendBack : Type 0
BarePortsSendBack = (w : State) (x d : ℕ) (ds : List ℕ) (src : Epid) (port : ℕ) → IsSettled w → SendsWalkers w x src → IsWalk w.tree x d ds
    → port < port_count w.tree.nodes (end_of w.tree.links (last_of d ds)) → port < 2 ^ 10 → port ≢ end_port w.tree.links (last_of d ds)
    → link_at w.tree.links (end_of w.tree.links (last_of d ds)) port ≡ None
    → WalkEnds w x (walker src (hops_over w.tree.links (d ∷ ds) ++ onward port ∷ inquiry ∷ collector ∷ []))
    (walk_end w x d ds src (inquiry ∷ collector ∷ []))
