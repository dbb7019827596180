-- What holds of values that settle a graph, and of a graph without cycles.
use Rattle.std.specs.Prelude.{◌≡◌, ◌≢◌, ℕ, ◌<◌, ◌≤◌, List, Contains, All}
use Rattle.graph_core.specs.declared.place.Prop.{Prop}
use Rattle.graph_core.specs.declared.place.Prop.TheVariants.{Rate}
use Rattle.graph_core.specs.declared.place.PropAt.{PropAt}
use Rattle.graph_core.specs.declared.place.Edge.{Edge}
use Rattle.graph_core.specs.declared.place.Side.TheVariants.{Into, Out}
use Rattle.graph_core.specs.Derivation.{Diagram, IsDerivation, IsClosed, Settles, property_at}
use Rattle.graph_core.specs.Edges.{IsAcyclic}
use Rattle.graph_core.specs.Pairs.{Pair, value_of}
use Rattle.graph_core.specs.Ports.{IsProperty}
use Rattle.graph_core.specs.Reach.{HasEndsBelow}

-- both ends of an edge have the same values
abbrev pub EdgesAgree : Type 0
EdgesAgree = (diagram : Diagram) (pairs : List Pair) → IsClosed diagram pairs →
    (edge : Edge) → Contains diagram.edges edge → (prop : Prop) (one other : ℕ) →
    Contains pairs (property_at Out edge.from prop, one) → Contains pairs (property_at Into edge.to prop, other) → one ≡ other

-- so is what is found at both ends
abbrev pub EdgesShowTheSame : Type 0
EdgesShowTheSame = (diagram : Diagram) (pairs : List Pair) → IsClosed diagram pairs →
    (edge : Edge) → Contains diagram.edges edge → (prop : Prop) →
    value_of pairs (property_at Out edge.from prop) ≡ value_of pairs (property_at Into edge.to prop)

-- item and spp are the same at all ports of a block
abbrev pub BlocksAgree : Type 0
BlocksAgree = (diagram : Diagram) (pairs : List Pair) → IsClosed diagram pairs →
    (at to : PropAt) (one other : ℕ) → at.prop ≢ Rate → to.block ≡ at.block → to.prop ≡ at.prop → IsProperty diagram.kinds to →
    Contains pairs (at, one) → Contains pairs (to, other) → one ≡ other

-- each item and spp is one that the user set somewhere
abbrev pub ItemsAreSet : Type 0
ItemsAreSet = (diagram : Diagram) (pairs : List Pair) → IsDerivation diagram pairs →
    (at : PropAt) (value : ℕ) → at.prop ≢ Rate → Contains pairs (at, value) →
    (from : PropAt) × (from.prop ≡ at.prop) × Contains diagram.users (from, value)

-- values that settle a graph are the same, up to their order
abbrev pub SettlingIsUnique : Type 0
SettlingIsUnique = (diagram : Diagram) (one other : List Pair) → Settles diagram one → Settles diagram other →
    ((at : PropAt) (value : ℕ) → Contains one (at, value) → Contains other (at, value))
    × ((at : PropAt) → value_of one at ≡ value_of other at)

-- a number for each block that falls along each edge
pub record FallsAlong (edges : List Edge) (count : ℕ) (rank : ℕ → ℕ) : Type 0 where
  pub falls : (edge : Edge) → Contains edges edge → rank edge.to.block < rank edge.from.block
  pub most : (block : ℕ) → rank block ≤ count

-- in a graph without cycles such numbers are at most as many as the blocks, so no chain of edges is longer
abbrev pub ChainsAreShort : Type 0
ChainsAreShort = (edges : List Edge) (count : ℕ) → All (HasEndsBelow count) edges → IsAcyclic edges →
    (rank : ℕ → ℕ) × FallsAlong edges count rank
