-- Which property of a list some pairs lack first.
use Rattle.std.specs.Prelude.{◌≡◌, ◌⊎◌, List, [], ◌∷◌, Option, Some, None}
use Rattle.graph_core.specs.declared.place.PropAt.{PropAt}
use Rattle.graph_core.specs.Pairs.{Pair, Holds, Lacks}

-- the pairs have each property of the list
abbrev pub AllHeld : List Pair → List PropAt → Type 0
AllHeld pairs [] = Unit {0}
AllHeld pairs (at ∷ rest) = Holds pairs at × AllHeld pairs rest

-- the property is the first of the list that the pairs lack
abbrev pub IsFirstMissing : List Pair → List PropAt → PropAt → Type 0
IsFirstMissing pairs [] at = ⊥
IsFirstMissing pairs (next ∷ rest) at = (Lacks pairs next × (next ≡ at)) ⊎ (Holds pairs next × IsFirstMissing pairs rest at)

-- what a search through the list for a missing property answers
abbrev pub Finds : List Pair → List PropAt → Option PropAt → Type 0
Finds pairs list None = AllHeld pairs list
Finds pairs list (Some at) = IsFirstMissing pairs list at
