-- Edges between ports, and the blocks that they lead to.
use Rattle.std.specs.Prelude.{◌≡◌, ℕ, ◌+◌, ◌*◌, ◌≤◌, ◌⊎◌, List, Contains}
use Rattle.block_library.specs.declared.kind.BlockKind.{BlockKind}
use Rattle.graph_core.specs.declared.place.Side.TheVariants.{Into, Out}
use Rattle.graph_core.specs.declared.place.PortAt.{PortAt}
use Rattle.graph_core.specs.declared.place.Edge.{Edge}
use Rattle.graph_core.specs.Ports.{ports_at, IsPort}

-- the block `last` is the block `first`, or edges lead to it from there
pub data Reaches (edges : List Edge) : ℕ → ℕ → Type 0 where
  here : {block : ℕ} → Reaches edges block block
  along : {first last : ℕ} (edge : Edge) → Contains edges edge → edge.from.block ≡ first → Reaches edges edge.to.block last → Reaches edges first last

-- no edge leads to a block from which edges lead back
abbrev pub IsAcyclic : List Edge → Type 0
IsAcyclic edges = (edge : Edge) → Contains edges edge → Reaches edges edge.to.block edge.from.block → ⊥

-- `from` is no output, or `to` no input
abbrev pub IsBadPort : List BlockKind → PortAt → PortAt → Type 0
IsBadPort kinds from to = (ports_at kinds from.block Out ≤ from.port) ⊎ (ports_at kinds to.block Into ≤ to.port)

-- the output or the input has an edge
abbrev pub IsTaken : List Edge → PortAt → PortAt → Type 0
IsTaken edges from to = (edge : Edge) × Contains edges edge × ((edge.from ≡ from) ⊎ (edge.to ≡ to))

-- a number of its own for each port of one side, since no block has more than two
abbrev pub port_number : PortAt → ℕ
port_number at = 2 * at.block + at.port

-- the edge goes from an output to an input
pub record IsJoined (kinds : List BlockKind) (edge : Edge) : Type 0 where
  pub from : IsPort kinds Out edge.from
  pub to : IsPort kinds Into edge.to
