-- Why an edge is refused, in the order in which the causes are looked at.
use Rattle.std.specs.Prelude.{List, Option, Some, None}
use Rattle.block_library.specs.declared.kind.BlockKind.{BlockKind}
use Rattle.graph_core.specs.declared.place.PortAt.{PortAt}
use Rattle.graph_core.specs.declared.place.Edge.{Edge}
use Rattle.graph_core.specs.declared.fault.ConnectFault.{ConnectFault}
use Rattle.graph_core.specs.declared.fault.ConnectFault.TheVariants.{BadPort, PortTaken, Cycle, Memory}
use Rattle.graph_core.specs.Edges.{Reaches, IsBadPort, IsTaken}

-- both are ports, and one of them has an edge
pub record IsRefusedTaken (kinds : List BlockKind) (edges : List Edge) (from to : PortAt) : Type 0 where
  pub ports : IsBadPort kinds from to → ⊥
  pub taken : IsTaken edges from to

-- both are ports without an edge, and edges lead back from the block of the input to the block of the output
pub record IsRefusedCycle (kinds : List BlockKind) (edges : List Edge) (from to : PortAt) : Type 0 where
  pub ports : IsBadPort kinds from to → ⊥
  pub free : IsTaken edges from to → ⊥
  pub cycle : Reaches edges to.block from.block

-- the edge can be added
pub record IsFree (kinds : List BlockKind) (edges : List Edge) (from to : PortAt) : Type 0 where
  pub ports : IsBadPort kinds from to → ⊥
  pub free : IsTaken edges from to → ⊥
  pub acyclic : Reaches edges to.block from.block → ⊥

-- the cause of a refusal, or none where the edge can be added
abbrev pub IsRefusal : List BlockKind → List Edge → PortAt → PortAt → Option ConnectFault → Type 0
IsRefusal kinds edges from to None = IsFree kinds edges from to
IsRefusal kinds edges from to (Some BadPort) = IsBadPort kinds from to
IsRefusal kinds edges from to (Some PortTaken) = IsRefusedTaken kinds edges from to
IsRefusal kinds edges from to (Some Cycle) = IsRefusedCycle kinds edges from to
IsRefusal kinds edges from to (Some Memory) = ⊥
