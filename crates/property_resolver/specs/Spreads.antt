-- One value passed on by the rules at its place, part by part.
use Rattle.std.specs.Prelude.{◌≡◌, ◌≢◌, ℕ, ◌<◌, List, [], ◌∷◌, ◌++◌, Contains, slice_get, Some, None, length}
use Rattle.graph_core.specs.declared.place.Side.{Side}
use Rattle.graph_core.specs.declared.place.PropAt.{PropAt}
use Rattle.graph_core.specs.declared.place.Edge.{Edge}
use Rattle.graph_core.specs.declared.place.Rule.{Rule}
use Rattle.block_library.specs.declared.kind.BlockKind.{BlockKind}
use Rattle.property_resolver.specs.declared.fault.CommitFault.{CommitFault}
use Rattle.property_resolver.specs.declared.fault.CommitFault.TheVariants.{Clash, NotWhole, Unsettled, Memory}
use Rattle.graph_core.specs.Derivation.{Diagram, IsDerivation, across, carried}
use Rattle.graph_core.specs.Ports.{port_count}
use Rattle.graph_core.specs.Pairs.{Pair, Holds, Lacks}

-- the new pairs have the property's value: they had it, or it was added last
pub data Learns (old new : List Pair) (at : PropAt) (value : ℕ) : Type 0 where
  known : Contains old (at, value) → new ≡ old → Learns old new at value
  added : Lacks old at → new ≡ old ++ (at, value) ∷ [] → Learns old new at value

-- the pairs have another value for the property than the rule gives
abbrev pub Contradicts : List Pair → Rule → PropAt → ℕ → CommitFault → Type 0
Contradicts pairs by at value (Clash rule prop held derived) = (rule ≡ by) × (prop ≡ at.prop) × (derived ≡ value) × Contains pairs (at, held) × (held ≢ value)
Contradicts pairs by at value (NotWhole block number) = ⊥
Contradicts pairs by at value (Unsettled missing) = ⊥
Contradicts pairs by at value Memory = Unit {0}

-- the derivation grew: pairs were added at its end
pub record Grows (diagram : Diagram) (old new : List Pair) : Type 0 where
  pub derivation : IsDerivation diagram new
  pub added : List Pair
  pub front : new ≡ old ++ added

-- each of the first edges at the property has given its value on
abbrev pub EdgesSpread : List Edge → ℕ → List Pair → PropAt → ℕ → Type 0
EdgesSpread edges count pairs at value = (number : ℕ) (edge : Edge) (to : PropAt) → number < count → slice_get edges number ≡ Some edge → across edge at ≡ Some to → Contains pairs (to, value)

-- each edge at the property has given its value on
abbrev pub AllEdgesSpread : Diagram → List Pair → PropAt → ℕ → Type 0
AllEdgesSpread diagram pairs at value = EdgesSpread diagram.edges (length diagram.edges) pairs at value

-- the property of the same name at a port of the same block
abbrev pub beside : PropAt → Side → ℕ → PropAt
beside at side port = record { block = at.block; side = side; port = port; prop = at.prop }

-- the block has given the value on to the first ports of the side, and didn't fail there
pub record PortsSpread (kind : BlockKind) (side : Side) (count : ℕ) (pairs : List Pair) (at : PropAt) (value : ℕ) : Type 0 where
  pub whole : 0 < count → carried kind at.prop at.side side value ≡ None → ⊥
  pub given : (port number : ℕ) → port < count → carried kind at.prop at.side side value ≡ Some number → Contains pairs (beside at side port, number)

-- the block has given the value on to each port of the side
abbrev pub SideSpread : BlockKind → Side → List Pair → PropAt → ℕ → Type 0
SideSpread kind side pairs at value = PortsSpread kind side (port_count side kind) pairs at value

-- the new pairs are the old ones, with the pair at their end if they lacked its property
pub data Keeps (old new : List Pair) (at : PropAt) (value : ℕ) : Type 0 where
  stays : Holds old at → new ≡ old → Keeps old new at value
  taken : Lacks old at → new ≡ old ++ (at, value) ∷ [] → Keeps old new at value

-- the pairs have each of the user's pairs
abbrev pub HasAll : List Pair → List Pair → Type 0
HasAll users pairs = (at : PropAt) (value : ℕ) → Contains users (at, value) → Contains pairs (at, value)
