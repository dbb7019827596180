-- What becomes of a packet that writes a node's entries.
use Rattle.std.specs.Prelude.{◌≡◌, ℕ, ◌<◌, ◌^◌, true, List, [], ◌∷◌}
use Rattle.chdr_words.specs.declared.epid.Epid.{Epid}
use Rattle.net_topology.specs.Links.{end_of, end_port}
use Rattle.net_topology.specs.Tree.{port_count}
use Rattle.net_topology.specs.declared.plan.Plan.{Plan}
use Rattle.net_machine.specs.Nodes.{is_switch}
use Rattle.net_machine.specs.State.{State}
use Rattle.net_lone.specs.Stages.{IsSettled, Lone}
use Rattle.net_walks.specs.Probes.{IsWalk, SendsWalkers, WalkEnds, return_end}
use Rattle.net_walks.specs.Walks.{collector}
use Rattle.net_walks.specs.Ways.{last_of}
use Rattle.net_writes.specs.Crossings.{Crossing, crossed_by, write_packet}

-- an EPID fits its bits, and this port of node z may be its entry; for the source itself it is the port of arrival
pub record IsEntry (tree : Plan) (src : Epid) (l : ℕ) (epid : Epid) (port : ℕ) : Type 0 where
  pub fits : epid.0 < 2 ^ 16
  pub there : port < port_count tree.nodes (end_of tree.links l)
  pub home : epid ≡ src → port ≡ end_port tree.links l

-- a packet of the source that comes over l may write this there, at a crossbar or an adapter
pub record MayCross (tree : Plan) (src : Epid) (l : ℕ) (it : Crossing) : Type 0 where
  pub switch : is_switch tree (end_of tree.links l) ≡ true
  pub a : IsEntry tree src l it.a it.to_a
  pub b : IsEntry tree src l it.b it.to_b

-- What becomes of such a packet: unless it is lost, the entries are written and it goes back with one hop.
abbrev pub write_end : State → ℕ → ℕ → List ℕ → Epid → Crossing → Lone
write_end w x d ds src it = return_end w x (crossed_by w.tree src d ds it w.nodes) src (collector ∷ [])

-- A write at the node at the end of a way comes back, and its entries are left.
abbrev pub WritesComeBack : Type 0
WritesComeBack = (w : State) (x d : ℕ) (ds : List ℕ) (src : Epid) (it : Crossing) → IsSettled w → SendsWalkers w x src → IsWalk w.tree x d ds
    → MayCross w.tree src (last_of d ds) it → WalkEnds w x (write_packet w.tree.links src (d ∷ ds) it) (write_end w x d ds src it)
