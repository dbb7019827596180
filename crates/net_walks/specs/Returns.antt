-- What a walker does at the end of its way, and that it comes back from there.
use Rattle.std.specs.Prelude.{◌≡◌, ◌≢◌, ℕ, ◌*◌, ◌<◌, true, List, ◌∷◌, ◌++◌, length, Some}
use Rattle.chdr_words.specs.declared.epid.Epid.{Epid}
use Rattle.chdr_words.specs.declared.management.MgmtOp.{MgmtOp}
use Rattle.net_nodes.specs.Table.{has_place}
use Rattle.net_topology.specs.Links.{back_of, end_of}
use Rattle.net_machine.specs.Nodes.{is_switch, route_from}
use Rattle.net_machine.specs.Queues.{forward_vc}
use Rattle.net_machine.specs.State.{Node, State, node_in}
use Rattle.net_lone.specs.Control.{has_asked}
use Rattle.net_lone.specs.Lone.{answering_at, moved_over}
use Rattle.net_lone.specs.Stages.{IsSettled, lone}
use Rattle.net_walks.specs.Probes.{IsWalk, SendsWalkers, WalkEnds, return_end}
use Rattle.net_walks.specs.Walks.{hops_over, returner, walker}
use Rattle.net_walks.specs.Ways.{last_of, passed_over}

-- a walker came over a link to a node, and its table has a place for the source
pub record HasArrived (w : State) (d : ℕ) (ds : List ℕ) (src : Epid) : Type 0 where
  pub link : last_of d ds < 2 * length w.tree.links
  pub long : length (passed_over w.tree src d ds w.nodes) ≡ length w.tree.nodes
  pub place : is_switch w.tree (end_of w.tree.links (last_of d ds)) ≡ true →
      has_place (node_in (passed_over w.tree src d ds w.nodes) (end_of w.tree.links (last_of d ds))).table src ≡ true

-- So it is at the end of each walk.
abbrev pub WalkersArrive : Type 0
WalkersArrive = (w : State) (x d : ℕ) (ds : List ℕ) (src : Epid) → IsSettled w → SendsWalkers w x src → IsWalk w.tree x d ds → HasArrived w d ds src

-- The last node performs the first of these hops and sends the walker back with those: the nodes are these then, the
-- entry of the source leads home, and the other nodes are as the walker found them.
pub record SendsBack (w : State) (d : ℕ) (ds : List ℕ) (src : Epid) (hops : List (List MgmtOp)) (left : List Node) (back : List (List MgmtOp)) : Type 0 where
  pub moves : moved_over (record (has_asked w) { nodes = passed_over w.tree src d ds w.nodes }) (last_of d ds) forward_vc (walker src hops)
      ≡ lone (record (has_asked w) { nodes = left }) (answering_at (record (has_asked w) { nodes = left }) (end_of w.tree.links (last_of d ds)) (returner src back))
  pub home : route_from w.tree left (end_of w.tree.links (last_of d ds)) src ≡ Some (back_of (last_of d ds))
  pub others : (y : ℕ) → y ≢ end_of w.tree.links (last_of d ds) → node_in left y ≡ node_in (passed_over w.tree src d ds w.nodes) y

-- Then the walker comes back to the host.
abbrev pub WalkersComeBack : Type 0
WalkersComeBack = (w : State) (x d : ℕ) (ds : List ℕ) (src : Epid) (hop : List MgmtOp) (hops : List (List MgmtOp)) (left : List Node) (back : List (List MgmtOp))
    → IsSettled w → SendsWalkers w x src → IsWalk w.tree x d ds → SendsBack w d ds src (hop ∷ hops) left back
    → WalkEnds w x (walker src (hops_over w.tree.links (d ∷ ds) ++ hop ∷ hops)) (return_end w x left src back)
