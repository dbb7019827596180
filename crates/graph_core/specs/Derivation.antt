-- What the edges and blocks of a graph give from the values of its user.
use Rattle.std.specs.Prelude.{◌≡◌, ℕ, ◌*◌, ◌/◌, ◌%◌, ◌^◌, ◌==◌, nat_lt, ◌&&◌, if◌then◌else◌, List, [], ◌∷◌, ◌++◌, Contains, slice_get, Option, Some, None, Bool}
use Rattle.block_library.specs.declared.kind.BlockKind.{BlockKind}
use Rattle.block_library.specs.declared.kind.BlockKind.TheVariants.{Tx, Rx, Fifo, Split, Keep, Repeat, Replay, Switch, Sink}
use Rattle.graph_core.specs.declared.place.Side.{Side}
use Rattle.graph_core.specs.declared.place.Side.TheVariants.{Into, Out}
use Rattle.graph_core.specs.declared.place.Prop.{Prop}
use Rattle.graph_core.specs.declared.place.Prop.TheVariants.{Rate, Item, Spp}
use Rattle.graph_core.specs.declared.place.PortAt.{PortAt}
use Rattle.graph_core.specs.declared.place.PropAt.{PropAt}
use Rattle.graph_core.specs.declared.place.Edge.{Edge}
use Rattle.graph_core.specs.declared.place.Rule.{Rule}
use Rattle.graph_core.specs.declared.place.Rule.TheVariants.{Edge as edge_rule, Block as block_rule}
use Rattle.graph_core.specs.Pairs.{Pair, Holds, Lacks}
use Rattle.graph_core.specs.Ports.{IsProperty}

-- what the rules speak of: the kinds of the blocks, the edges, and the pairs that the user set
pub record Diagram : Type 0 where
  pub kinds : List BlockKind
  pub edges : List Edge
  pub users : List Pair

-- the property of that name at the port
abbrev pub property_at : Side → PortAt → Prop → PropAt
property_at side at prop = record { block = at.block; side = side; port = at.port; prop = prop }

-- whether the property is one of that port, on whichever side
abbrev pub is_at : PropAt → PortAt → Bool
is_at at port = (at.block == port.block) && (at.port == port.port)

-- the property at the edge's other end, for a property on the side
abbrev pub other_end : Side → Edge → PropAt → Option PropAt
other_end Out edge at = if is_at at edge.from then Some (property_at Into edge.to at.prop) else None
other_end Into edge at = if is_at at edge.to then Some (property_at Out edge.from at.prop) else None

-- the property at the edge's other end, where the property is at one of its ends
abbrev pub across : Edge → PropAt → Option PropAt
across edge at = other_end at.side edge at

-- the value divided by n, where it can be
abbrev pub quotient : ℕ → ℕ → Option ℕ
quotient n value = if value % n == 0 then Some (value / n) else None

-- the value times n, where a value can be that large
abbrev pub product : ℕ → ℕ → Option ℕ
product n value = if nat_lt (value * n) (2 ^ 64) then Some (value * n) else None

-- the rate on a block's other side, for the rate on the side: in = n * out for keep, out = n * in for repeat, else equal
abbrev pub rate_across : BlockKind → Side → ℕ → Option ℕ
rate_across Tx side value = Some value
rate_across Rx side value = Some value
rate_across Fifo side value = Some value
rate_across Split side value = Some value
rate_across (Keep n) Into value = quotient n value
rate_across (Keep n) Out value = product n value
rate_across (Repeat n) Into value = product n value
rate_across (Repeat n) Out value = quotient n value
rate_across (Replay n) side value = Some value
rate_across (Switch n) side value = Some value
rate_across Sink side value = Some value

-- the value at a port of a block on the side `to`, for the value at one on the side `from`
abbrev pub carried : BlockKind → Prop → Side → Side → ℕ → Option ℕ
carried kind Rate Into Into value = Some value
carried kind Rate Into Out value = rate_across kind Into value
carried kind Rate Out Into value = rate_across kind Out value
carried kind Rate Out Out value = Some value
carried kind Item from to value = Some value
carried kind Spp from to value = Some value

-- the edge of that number has the properties `from` and `to` at its ends, and gives the value on
pub record EdgeGives (diagram : Diagram) (number : ℕ) (from : PropAt) (value : ℕ) (to : PropAt) (given : Option ℕ) : Type 0 where
  pub edge : Edge
  pub stands : slice_get diagram.edges number ≡ Some edge
  pub joins : across edge from ≡ Some to
  pub equal : given ≡ Some value

-- the block of that number has the properties `from` and `to`, of one name, and gives the value on by its kind
pub record BlockGives (diagram : Diagram) (number : ℕ) (from : PropAt) (value : ℕ) (to : PropAt) (given : Option ℕ) : Type 0 where
  pub kind : BlockKind
  pub stands : slice_get diagram.kinds number ≡ Some kind
  pub near : from.block ≡ number
  pub far : to.block ≡ number
  pub prop : to.prop ≡ from.prop
  pub port : IsProperty diagram.kinds to
  pub carries : given ≡ carried kind from.prop from.side to.side value

-- the rule gives `given` for `to` from the value of `from`; where it fails, that is `None`
abbrev pub Gives : Diagram → Rule → PropAt → ℕ → PropAt → Option ℕ → Type 0
Gives diagram (edge_rule number) from value to given = EdgeGives diagram number from value to given
Gives diagram (block_rule number) from value to given = BlockGives diagram number from value to given

-- a derivation: each pair was set by the user, or some rule gives it from an earlier pair, and no property stands twice
pub data IsDerivation (diagram : Diagram) : List Pair → Type 0 where
  none : IsDerivation diagram []
  set : {pairs : List Pair} (earlier : List Pair) (at : PropAt) (value : ℕ)
      → IsDerivation diagram earlier → Contains diagram.users (at, value) → Lacks earlier at
      → pairs ≡ earlier ++ (at, value) ∷ [] → IsDerivation diagram pairs
  given : {pairs : List Pair} (earlier : List Pair) (at : PropAt) (value : ℕ) (by : Rule) (from : PropAt) (number : ℕ)
      → IsDerivation diagram earlier → Contains earlier (from, number) → Gives diagram by from number at (Some value) → Lacks earlier at
      → pairs ≡ earlier ++ (at, value) ∷ [] → IsDerivation diagram pairs

-- no rule fails on the pair, and each pair that a rule gives from it is among the pairs
pub record IsSpread (diagram : Diagram) (pairs : List Pair) (at : PropAt) (value : ℕ) : Type 0 where
  pub whole : (by : Rule) (to : PropAt) → Gives diagram by at value to None → ⊥
  pub given : (by : Rule) (to : PropAt) (number : ℕ) → Gives diagram by at value to (Some number) → Contains pairs (to, number)

-- a closed derivation has every pair of the user, and each of its pairs is spread
pub record IsClosed (diagram : Diagram) (pairs : List Pair) : Type 0 where
  pub derivation : IsDerivation diagram pairs
  pub users : (at : PropAt) (value : ℕ) → Contains diagram.users (at, value) → Contains pairs (at, value)
  pub spread : (at : PropAt) (value : ℕ) → Contains pairs (at, value) → IsSpread diagram pairs at value

-- the pairs settle the graph: a closed derivation that has every property
pub record Settles (diagram : Diagram) (pairs : List Pair) : Type 0 where
  pub closed : IsClosed diagram pairs
  pub full : (at : PropAt) → IsProperty diagram.kinds at → Holds pairs at

-- there is at most one closed derivation, up to the order of its pairs
abbrev pub ClosedIsUnique : Type 0
ClosedIsUnique = (diagram : Diagram) (one other : List Pair) → IsClosed diagram one → IsClosed diagram other
    → (at : PropAt) (value : ℕ) → Contains one (at, value) → Contains other (at, value)
