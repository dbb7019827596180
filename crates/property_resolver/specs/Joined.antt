-- The numbers of the edges by the ports at their ends.
use Rattle.std.specs.Prelude.{◌≡◌, ℕ, ◌<◌, List, Option, Some, None, option_and_then, length, slice_get, slice_index_or}
use Rattle.graph_core.specs.declared.place.Side.{Side}
use Rattle.graph_core.specs.declared.place.Side.TheVariants.{Into, Out}
use Rattle.graph_core.specs.declared.place.PortAt.{PortAt}
use Rattle.graph_core.specs.declared.place.PropAt.{PropAt}
use Rattle.graph_core.specs.declared.place.Edge.{Edge}
use Rattle.graph_core.specs.Derivation.{across}
use Rattle.graph_core.specs.Edges.{port_number}
use Rattle.property_resolver.specs.declared.joins.Joins.{Joins}

-- the port at the edge's end on the side
abbrev pub end_on : Side → Edge → PortAt
end_on Into edge = edge.to
end_on Out edge = edge.from

-- each of the first edges has its number at its end on the side
abbrev pub HasEdges : Side → List Edge → ℕ → List (Option ℕ) → Type 0
HasEdges side edges count numbers = (number : ℕ) (edge : Edge) → number < count → slice_get edges number ≡ Some edge
    → slice_index_or numbers (port_number (end_on side edge)) None ≡ Some number

-- the numbers by the ports of the side
abbrev pub numbers_on : Joins → Side → List (Option ℕ)
numbers_on joins Into = joins.inputs
numbers_on joins Out = joins.outputs

-- the property at the other end of the edge of that number
abbrev pub far_end : List Edge → ℕ → PropAt → Option PropAt
far_end edges number at = option_and_then (λ edge. across edge at) (slice_get edges number)

-- the numbers on each side are those of the edges
abbrev pub AreOf : Joins → List Edge → Type 0
AreOf joins edges = (side : Side) → HasEdges side edges (length edges) (numbers_on joins side)
