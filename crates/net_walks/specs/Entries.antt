-- What a new entry of one node's table changes, and what it leaves.
use Rattle.std.specs.Prelude.{◌≡◌, ◌≢◌, ◌==◌, ◌&&◌, ℕ, ◌<◌, List, length, Some, if◌then◌else◌}
use Rattle.chdr_words.specs.declared.epid.Epid.{Epid}
use Rattle.net_nodes.specs.Table.{has_place, with_exit}
use Rattle.net_machine.specs.Nodes.{exits_of}
use Rattle.net_machine.specs.Passing.{with_table}
use Rattle.net_machine.specs.State.{Node, node_in}

-- the nodes when node z has a port as the entry of an EPID
abbrev pub entered : ℕ → Epid → ℕ → List Node → List Node
entered z epid port nodes = with_table nodes z (with_exit (node_in nodes z).table epid port)

-- the table of node z has the entry if it has a place for it, and nothing else changes
pub record IsEntered (z : ℕ) (epid : Epid) (port : ℕ) (nodes left : List Node) : Type 0 where
  pub long : length left ≡ length nodes
  pub elsewhere : (y : ℕ) → y ≢ z → node_in left y ≡ node_in nodes y
  pub places : (y : ℕ) (other : Epid) → has_place (node_in left y).table other ≡ has_place (node_in nodes y).table other
  pub here : z < length nodes → (other : Epid) →
      exits_of left z other ≡ (if other.0 == epid.0 && has_place (node_in nodes z).table epid then Some port else exits_of nodes z other)

abbrev pub EntriesAreEntered : Type 0
EntriesAreEntered = (z : ℕ) (epid : Epid) (port : ℕ) (nodes : List Node) → IsEntered z epid port nodes (entered z epid port nodes)
