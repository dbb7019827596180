-- Marks at blocks, by which the search for a cycle goes.
use Rattle.std.specs.Prelude.{◌≡◌, ℕ, ◌<◌, Bool, true, false, List, Contains, slice_index_or, sum_by}
use Rattle.graph_core.specs.declared.place.Edge.{Edge}
use Rattle.graph_core.specs.Edges.{Reaches}

-- the block is marked
abbrev pub Marked : List Bool → ℕ → Type 0
Marked marks block = slice_index_or marks block false ≡ true

-- one for a block that isn't marked
abbrev pub missing : Bool → ℕ
missing true = 0
missing false = 1

-- how many blocks aren't marked
abbrev pub unmarked : List Bool → ℕ
unmarked marks = sum_by missing marks

-- edges lead from the block `first` to each marked block
abbrev pub MarksReached : List Edge → ℕ → List Bool → Type 0
MarksReached edges first marks = (block : ℕ) → Marked marks block → Reaches edges first block

-- what edges lead to from a block that the old marks knew of, the new ones know of
abbrev pub KeepsReached : List Edge → List Bool → List Bool → Type 0
KeepsReached edges old new = (first : ℕ) → MarksReached edges first old → MarksReached edges first new

-- both ends of the edge are at blocks below the number
abbrev pub HasEndsBelow : ℕ → Edge → Type 0
HasEndsBelow count edge = (edge.from.block < count) × (edge.to.block < count)

-- each edge from a marked block leads to a marked block
abbrev pub MarksClosed : List Edge → List Bool → Type 0
MarksClosed edges marks = (edge : Edge) → Contains edges edge → Marked marks edge.from.block → Marked marks edge.to.block
