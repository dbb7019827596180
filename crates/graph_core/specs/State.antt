-- What contracts see of a graph.
use Rattle.std.specs.Prelude.{◌≡◌, ℕ, ◌≤◌, Bool, true, false, List, [], ◌∷◌, ◌++◌, length, map, Contains, All, nat_eq}
use Rattle.std.specs.List.{IsDistinct}
use Rattle.block_library.specs.declared.kind.BlockKind.{BlockKind}
use Rattle.block_library.specs.Blocks.{FitsKind}
use Rattle.graph_core.specs.declared.place.PropAt.{PropAt}
use Rattle.graph_core.specs.declared.place.Edge.{Edge}
use Rattle.graph_core.specs.Derivation.{Diagram, Settles}
use Rattle.graph_core.specs.Edges.{IsAcyclic, IsBadPort, IsJoined, port_number}
use Rattle.graph_core.specs.Refusals.{IsRefusedTaken, IsRefusedCycle}
use Rattle.graph_core.specs.declared.place.PortAt.{PortAt}
use Rattle.graph_core.specs.Pairs.{Pair, with_value}
use Rattle.graph_core.specs.Ports.{IsProperty, ports_at}

-- a graph: what its rules speak of, the values of the last commit, and whether it is committed
pub record State : Type 0 where
  pub diagram : Diagram
  pub committed : List Pair
  pub is_committed : Bool

-- `from` is no output of the graph, or `to` no input
abbrev pub HasBadPort : State → PortAt → PortAt → Type 0
HasBadPort state from to = IsBadPort state.diagram.kinds from to

-- both are ports, and one of them has an edge
abbrev pub HasTakenPort : State → PortAt → PortAt → Type 0
HasTakenPort state from to = IsRefusedTaken state.diagram.kinds state.diagram.edges from to

-- both are ports without an edge, and the edge would close a cycle
abbrev pub HasCycle : State → PortAt → PortAt → Type 0
HasCycle state from to = IsRefusedCycle state.diagram.kinds state.diagram.edges from to

-- the block has no such port
abbrev pub HasNoPort : State → PropAt → Type 0
HasNoPort state at = ports_at state.diagram.kinds at.block at.side ≤ at.port

-- the graph of these parts
abbrev pub state : List BlockKind → List Edge → List Pair → List Pair → Bool → State
state kinds edges users committed is_committed = record {
  diagram = record { kinds = kinds; edges = edges; users = users };
  committed = committed;
  is_committed = is_committed;
}

-- the blocks, edges and user's values of a graph
pub record IsDiagram (diagram : Diagram) : Type 0 where
  pub few : length diagram.kinds ≤ 32
  pub kinds : All FitsKind diagram.kinds
  pub joined : All (IsJoined diagram.kinds) diagram.edges
  pub outputs : IsDistinct nat_eq (map (λ edge. port_number edge.from) diagram.edges)
  pub inputs : IsDistinct nat_eq (map (λ edge. port_number edge.to) diagram.edges)
  pub acyclic : IsAcyclic diagram.edges
  pub users : (at : PropAt) (value : ℕ) → Contains diagram.users (at, value) → IsProperty diagram.kinds at
  pub single : (at : PropAt) (one other : ℕ) → Contains diagram.users (at, one) → Contains diagram.users (at, other) → one ≡ other

-- what holds of every graph
pub record IsGraph (state : State) : Type 0 where
  pub diagram : IsDiagram state.diagram
  pub once : (at : PropAt) (one other : ℕ) → Contains state.committed (at, one) → Contains state.committed (at, other) → one ≡ other
  pub settled : state.is_committed ≡ true → Settles state.diagram state.committed

-- the graph with one more block
abbrev pub with_kind : State → BlockKind → State
with_kind state kind = record {
  diagram = record { kinds = state.diagram.kinds ++ kind ∷ []; edges = state.diagram.edges; users = state.diagram.users };
  committed = state.committed;
  is_committed = false;
}

-- the graph with one more edge
abbrev pub with_edge : State → Edge → State
with_edge state edge = record {
  diagram = record { kinds = state.diagram.kinds; edges = state.diagram.edges ++ edge ∷ []; users = state.diagram.users };
  committed = state.committed;
  is_committed = false;
}

-- the graph after the values were committed
abbrev pub with_values : State → List Pair → State
with_values state values = record { diagram = state.diagram; committed = values; is_committed = true }

-- the graph with that value of the user's, in place of an earlier one of the property or last
abbrev pub with_user : State → PropAt → ℕ → State
with_user state at value = record {
  diagram = record {
    kinds = state.diagram.kinds;
    edges = state.diagram.edges;
    users = with_value state.diagram.users at value;
  };
  committed = state.committed;
  is_committed = false;
}
