-- Pairs of a property and its value.
use Rattle.std.specs.Prelude.{◌≡◌, ◌≢◌, ℕ, Bool, List, [], ◌∷◌, Contains, ◌⊎◌, Option, if◌then◌else◌}
use Rattle.std.specs.Map.{lookup}
use Rattle.graph_core.specs.declared.place.PropAt.{PropAt}
use Rattle.graph_core.specs.contracts.place.PropAtPartialEq.TheImpl.{eq-value}

-- a property and its value
abbrev pub Pair : Type 0
Pair = PropAt × ℕ

-- some pair has the property
abbrev pub Holds : List Pair → PropAt → Type 0
Holds pairs at = (value : ℕ) × Contains pairs (at, value)

-- no pair has the property
abbrev pub Lacks : List Pair → PropAt → Type 0
Lacks pairs at = (value : ℕ) → Contains pairs (at, value) → ⊥

-- the new pairs are the old ones, but that the property has the value, whatever it had before
pub record IsPut (old new : List Pair) (at : PropAt) (value : ℕ) : Type 0 where
  pub has : Contains new (at, value)
  pub kept : (other : PropAt) (number : ℕ) → other ≢ at → Contains old (other, number) → Contains new (other, number)
  pub only : (other : PropAt) (number : ℕ) → Contains new (other, number) → ((other ≡ at) × (number ≡ value)) ⊎ ((other ≢ at) × Contains old (other, number))

-- whether two places name one property
abbrev pub is_same : PropAt → PropAt → Bool
is_same = eq-value.it

-- the value of a property among the pairs; none where no pair has it
unfoldable pub value_of : List Pair → PropAt → Option ℕ
value_of pairs at = lookup (is_same at) pairs

-- the pairs with that value of the property: in its place where the property has one, else last
unfoldable pub with_value : List Pair → PropAt → ℕ → List Pair
with_value [] at value = (at, value) ∷ []
with_value (pair ∷ pairs) at value =
    if is_same at pair.0 then (pair.0, value) ∷ pairs else pair ∷ with_value pairs at value
