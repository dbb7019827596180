-- The first item of a list, or the first number, that lacks a property.
use Rattle.std.specs.Prelude.{◌≡◌, ℕ, ◌<◌, List, Some, slice_get}

-- each item has the property, which may depend on its place
abbrev pub EachPlace : {A : Type 0} → (ℕ → A → Type 0) → List A → Type 0
EachPlace {A} P xs = (i : ℕ) (x : A) → slice_get xs i ≡ Some x → P i x

-- the item is the first without the property
pub record IsFirstWithout {A : Type 0} (P : ℕ → A → Type 0) (xs : List A) (x : A) : Type 0 where
  pub place : ℕ
  pub found : slice_get xs place ≡ Some x
  pub lacks : P place x → ⊥
  pub before : (i : ℕ) (y : A) → i < place → slice_get xs i ≡ Some y → P i y

-- of the numbers below n, k is the first without the property
pub record IsLeastWithout (P : ℕ → Type 0) (n k : ℕ) : Type 0 where
  pub below : k < n
  pub lacks : P k → ⊥
  pub before : (j : ℕ) → j < k → P j
