-- Members of lists, and of what is made of lists.
use Rattle.std.proofs.Common.{◌≡◌, ℕ, ◌+◌, ◌<◌, ◌≤◌, ◌⊎◌, inl, inr, Bool, true, false, List, [], ◌∷◌, ◌++◌, map, refl, sym, ◌∙◌, ap, subst, arith, zero, suc, if◌then◌else◌}
use Rattle.std.specs.Prelude.{Option, Some, None, filter_map}
use Rattle.std.specs.List.{AllByRecursion, cons_option, filter, flat_map, range_with_len}
use Rattle.std.proofs.lemmas.Bool.{cases_eq}
use Rattle.topology_walk.proofs.Counting.{one_if, tally}

abbrev pub In : {A : Type 0} → A → List A → Type 0
In x [] = ⊥
In x (y ∷ ys) = (y ≡ x) ⊎ In x ys

-- ---- into lists

in-left : {A : Type 0} (x : A) (xs ys : List A) → In x xs → In x (xs ++ ys)
in-left x [] ys none = absurd none
in-left x (y ∷ xs) ys (inl same) = inl same
in-left x (y ∷ xs) ys (inr rest) = inr (in-left x xs ys rest)

in-right : {A : Type 0} (x : A) (xs ys : List A) → In x ys → In x (xs ++ ys)
in-right x [] ys is = is
in-right x (y ∷ xs) ys is = inr (in-right x xs ys is)

pub in-flat : {A B : Type 0} (h : A → List B) (x : A) (y : B) (xs : List A) → In x xs → In y (h x) → In y (flat_map h xs)
in-flat h x y [] none is = absurd none
in-flat {A} {B} h x y (z ∷ xs) (inl same) is = in-left y (h z) (flat_map h xs) (subst (λ (w : A). In y (h w)) (sym same) is)
in-flat h x y (z ∷ xs) (inr rest) is = in-right y (h z) (flat_map h xs) (in-flat h x y xs rest is)

pub in-found : {A B : Type 0} (g : A → Option B) (x : A) (y : B) (xs : List A) → In x xs → g x ≡ Some y → In y (filter_map g xs)
in-found g x y [] none is = absurd none
in-found {A} {B} g x y (z ∷ xs) (inl same) is = subst (λ (o : Option B). In y (cons_option o (filter_map g xs))) (sym (ap g same ∙ is)) (inl refl)
in-found {A} {B} g x y (z ∷ xs) (inr rest) is = by_first (g z) (in-found g x y xs rest is)
  where
    by_first : (o : Option B) → In y (filter_map g xs) → In y (cons_option o (filter_map g xs))
    by_first None here = here
    by_first (Some f) here = inr here

pub in-filter : {A : Type 0} (q : A → Bool) (x : A) (xs : List A) → In x xs → q x ≡ true → In x (filter q xs)
in-filter q x [] none is = absurd none
in-filter {A} q x (z ∷ xs) (inl same) is = subst (λ b. In x (if b then z ∷ filter q xs else filter q xs)) (sym (ap q same ∙ is)) (inl same)
in-filter {A} q x (z ∷ xs) (inr rest) is = by_first (q z) (in-filter q x xs rest is)
  where
    by_first : (b : Bool) → In x (filter q xs) → In x (if b then z ∷ filter q xs else filter q xs)
    by_first true here = inr here
    by_first false here = here

pub in-map : {A B : Type 0} (h : A → B) (x : A) (xs : List A) → In x xs → In (h x) (map h xs)
in-map h x [] none = absurd none
in-map h x (z ∷ xs) (inl same) = inl (ap h same)
in-map h x (z ∷ xs) (inr rest) = inr (in-map h x xs rest)

pub in-range : (k a n : ℕ) → a ≤ k → k < a + n → In k (range_with_len a n)
in-range k a zero le lt = absurd (omega (arith, le, lt))
in-range k a (suc n) le lt = by_first (cases_eq a k) (λ other. in-range k (a + 1) n (omega (arith, le, other)) (omega (arith, lt)))
  where
    by_first : (a ≡ k) ⊎ (a ≡ k → ⊥) → ((a ≡ k → ⊥) → In k (range_with_len (a + 1) n)) → (a ≡ k) ⊎ In k (range_with_len (a + 1) n)
    by_first (inl same) rest = inl same
    by_first (inr other) rest = inr (rest other)

-- ---- out of lists

from-join : {A : Type 0} (x : A) (xs ys : List A) → In x (xs ++ ys) → In x xs ⊎ In x ys
from-join x [] ys is = inr is
from-join x (y ∷ xs) ys (inl same) = inl (inl same)
from-join {A} x (y ∷ xs) ys (inr rest) = by_part (from-join x xs ys rest)
  where
    by_part : In x xs ⊎ In x ys → In x (y ∷ xs) ⊎ In x ys
    by_part (inl here) = inl (inr here)
    by_part (inr there) = inr there

pub from-flat : {A B : Type 0} (h : A → List B) (y : B) (xs : List A) → In y (flat_map h xs) → (x : A) × In x xs × In y (h x)
from-flat h y [] none = absurd none
from-flat {A} {B} h y (z ∷ xs) is = by_part (from-join y (h z) (flat_map h xs) is) (λ there. from-flat h y xs there)
  where
    by_part : In y (h z) ⊎ In y (flat_map h xs) → (In y (flat_map h xs) → (x : A) × In x xs × In y (h x)) → (x : A) × In x (z ∷ xs) × In y (h x)
    by_part (inl here) rest = (z, inl refl, here)
    by_part (inr there) rest = let it = rest there in (it.0, inr it.1, it.2)

pub from-found : {A B : Type 0} (g : A → Option B) (y : B) (xs : List A) → In y (filter_map g xs) → (x : A) × In x xs × (g x ≡ Some y)
from-found g y [] none = absurd none
from-found {A} {B} g y (z ∷ xs) is = by_first (g z) refl is (λ there. from-found g y xs there)
  where
    Rest : Type 0
    Rest = In y (filter_map g xs) → (x : A) × In x xs × (g x ≡ Some y)

    further : (x : A) × In x xs × (g x ≡ Some y) → (x : A) × In x (z ∷ xs) × (g x ≡ Some y)
    further it = (it.0, inr it.1, it.2)

    by_first : (o : Option B) → g z ≡ o → In y (cons_option o (filter_map g xs)) → Rest → (x : A) × In x (z ∷ xs) × (g x ≡ Some y)
    by_first None none there rest = further (rest there)
    by_first (Some f) at (inl same) rest = (z, inl refl, at ∙ ap (λ (w : B). Some w) same)
    by_first (Some f) at (inr there) rest = further (rest there)

pub from-filter : {A : Type 0} (q : A → Bool) (x : A) (xs : List A) → In x (filter q xs) → In x xs × (q x ≡ true)
from-filter q x [] none = absurd none
from-filter {A} q x (z ∷ xs) is = by_first (q z) refl is (λ there. from-filter q x xs there)
  where
    further : In x xs × (q x ≡ true) → In x (z ∷ xs) × (q x ≡ true)
    further it = (inr it.0, it.1)

    by_first : (b : Bool) → q z ≡ b → In x (if b then z ∷ filter q xs else filter q xs) → (In x (filter q xs) → In x xs × (q x ≡ true)) → In x (z ∷ xs) × (q x ≡ true)
    by_first true passes (inl same) rest = (inl same, ap q (sym same) ∙ passes)
    by_first true passes (inr there) rest = further (rest there)
    by_first false fails there rest = further (rest there)

pub from-map : {A B : Type 0} (h : A → B) (y : B) (xs : List A) → In y (map h xs) → (x : A) × (y ≡ h x)
from-map h y [] none = absurd none
from-map h y (z ∷ xs) (inl same) = (z, sym same)
from-map h y (z ∷ xs) (inr rest) = from-map h y xs rest

-- ---- each member

pub all-in : {A : Type 0} (P : A → Type 0) (xs : List A) → ((x : A) → In x xs → P x) → AllByRecursion P xs
all-in P [] each = tt
all-in P (x ∷ xs) each = (each x (inl refl), all-in P xs (λ y is. each y (inr is)))

-- a member that passes a test counts
pub counts : {A : Type 0} (p : A → Bool) (x : A) (xs : List A) → In x xs → p x ≡ true → 1 ≤ tally p xs
counts p x [] none passes = absurd none
counts p x (y ∷ xs) (inl same) passes = let one : one_if (p y) ≡ 1 = ap one_if (ap p same ∙ passes) in omega (arith, one)
counts p x (y ∷ xs) (inr rest) passes = let more = counts p x xs rest passes in omega (arith, more)
