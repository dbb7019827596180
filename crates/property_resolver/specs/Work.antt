-- How many applications of edges and blocks some pairs take, each pair once.
use Rattle.std.specs.Prelude.{ℕ, ◌+◌, ◌*◌, List, length, sum_by, Option, Some, None}
use Rattle.graph_core.specs.declared.place.PropAt.{PropAt}
use Rattle.graph_core.specs.declared.place.Edge.{Edge}
use Rattle.graph_core.specs.Derivation.{Diagram, across}
use Rattle.graph_core.specs.Pairs.{Pair}
use Rattle.graph_core.specs.Ports.{port_total}

-- one where there is an answer
abbrev pub one_if_some : Option PropAt → ℕ
one_if_some None = 0
one_if_some (Some at) = 1

-- how many of the edges have the property at one end
abbrev pub edge_work : List Edge → PropAt → ℕ
edge_work edges at = sum_by (λ edge. one_if_some (across edge at)) edges

-- one application of the block and one of each edge at it, for each pair
abbrev pub work : List Edge → List Pair → ℕ
work edges pairs = sum_by (λ pair. 1 + edge_work edges pair.0) pairs

-- what a commit may take at most: three properties for each port, and each edge in both directions
abbrev pub most_work : Diagram → ℕ
most_work diagram = 3 * port_total diagram.kinds + 6 * length diagram.edges
