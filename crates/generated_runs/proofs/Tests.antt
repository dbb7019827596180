-- What a test that passed says.
use Rattle.std.proofs.Common.{◌≡◌, ℕ, ◌+◌, ◌<◌, ◌≤◌, ◌⊎◌, inl, inr, zero, suc, Bool, true, false, ◌&&◌, List, [], ◌∷◌, length, Contains, Option, None, Some, refl, sym, subst, arith, true≢false, eq-or-lt_of_le}
use Rattle.std.specs.Prelude.{slice_get}
use Rattle.std.specs.List.{list_all, list_any, range_with_len}
use Rattle.std.specs.Option.{option_map_or}
use Rattle.std.proofs.lemmas.Bool.{and_parts, or_cases, or_parts}

pub left : (a b : Bool) → (a && b) ≡ true → a ≡ true
left a b h = (and_parts a b h).0

pub right : (a b : Bool) → (a && b) ≡ true → b ≡ true
right a b h = (and_parts a b h).1

pub never : {A : Type 0} → false ≡ true → A
never h = absurd (true≢false (sym h))

pub none-some : {A : Type 0} {B : Type 0} {x : A} → ◌≡◌ {A = Option A} None (Some x) → B
none-some {A} {B} {x} e = absurd (impossible x e)
  where
    impossible : (x : A) → ◌≡◌ {A = Option A} None (Some x) → ⊥
    impossible x e = cc

pub some-same : {A : Type 0} {x y : A} → ◌≡◌ {A = Option A} (Some x) (Some y) → x ≡ y
some-same e = cc

-- what an option that passes holds
pub record Found {X : Type 0} (o : Option X) (P : X → Type 0) : Type 0 where
  pub value : X
  pub is : o ≡ Some value
  pub holds : P value

pub passing : {X : Type 0} (test : X → Bool) (o : Option X) → option_map_or test o false ≡ true → Found o (λ x. test x ≡ true)
passing test None h = never h
passing test (Some x) h = record { value = x; is = refl; holds = h }

-- the test of an option that may hold nothing
pub passed : {X : Type 0} (test : X → Bool) (o : Option X) (b : Bool) (x : X) → option_map_or test o b ≡ true → o ≡ Some x → test x ≡ true
passed test o b x h is = subst (λ p. option_map_or test p b ≡ true) is h

-- an item of a list passes what all pass
pub each-passes : {X : Type 0} (test : X → Bool) (xs : List X) → list_all test xs ≡ true → (x : X) → Contains xs x → test x ≡ true
each-passes test [] h x has = absurd (omega (arith, has.1))
each-passes test (y ∷ ys) h x (zero, lt, e) = subst (λ z. test z ≡ true) e (left (test y) (list_all test ys) h)
each-passes test (y ∷ ys) h x (suc k, lt, e) =
    each-passes test ys (right (test y) (list_all test ys) h) x (k, omega arith, e)

-- what is at a place of a list is in it
pub there : {X : Type 0} (xs : List X) (k : ℕ) (x : X) → slice_get xs k ≡ Some x → Contains xs x
there [] k x h = none-some h
there (y ∷ ys) zero x h = (zero, omega arith, some-same h)
there (y ∷ ys) (suc k) x h = let t = there ys k x h in (suc t.0, omega (arith, t.1), t.2)

pub below-length : {X : Type 0} (xs : List X) (i : ℕ) (x : X) → slice_get xs i ≡ Some x → i < length xs
below-length [] i x is = none-some is
below-length (y ∷ ys) zero x is = omega arith
below-length (y ∷ ys) (suc i) x is = let later = below-length ys i x is in omega arith

pub at-passes : {X : Type 0} (test : X → Bool) (xs : List X) → list_all test xs ≡ true → (k : ℕ) (x : X) → slice_get xs k ≡ Some x → test x ≡ true
at-passes test xs h k x is = each-passes test xs h x (there xs k x is)

-- one that passes is in a list if any passes
pub record Passing {X : Type 0} (test : X → Bool) (xs : List X) : Type 0 where
  pub item : X
  pub has : Contains xs item
  pub passes : test item ≡ true

pub some-passes : {X : Type 0} (test : X → Bool) (xs : List X) → list_any test xs ≡ true → Passing test xs
some-passes test [] h = never h
some-passes {X} test (y ∷ ys) h = by (some-passes test ys) (or_cases (test y) (list_any test ys) h)
  where
    later : Passing test ys → Passing test (y ∷ ys)
    later p = record { item = p.item; has = (suc p.has.0, omega (arith, p.has.1), p.has.2); passes = p.passes }

    by : (list_any test ys ≡ true → Passing test ys) → (test y ≡ true) ⊎ (list_any test ys ≡ true) → Passing test (y ∷ ys)
    by rest (inl h) = record { item = y; has = (zero, omega arith, refl); passes = h }
    by rest (inr h) = later (rest h)

-- if none passes, no item of the list does
pub none-passes : {X : Type 0} (test : X → Bool) (xs : List X) → list_any test xs ≡ false → (x : X) → Contains xs x → test x ≡ false
none-passes test [] h x has = absurd (omega (arith, has.1))
none-passes test (y ∷ ys) h x (zero, lt, e) = subst (λ z. test z ≡ false) e (or_parts (test y) (list_any test ys) h).0
none-passes test (y ∷ ys) h x (suc k, lt, e) =
    none-passes test ys (or_parts (test y) (list_any test ys) h).1 x (k, omega arith, e)

-- each number of a range passes what all of them pass
pub range-passes : (test : ℕ → Bool) (a n : ℕ) → list_all test (range_with_len a n) ≡ true → (k : ℕ) → a ≤ k → k < a + n → test k ≡ true
range-passes test a zero h k low high = absurd (omega arith)
range-passes test a (suc n) h k low high =
    by (range-passes test (a + 1) n (right (test a) (list_all test (range_with_len (a + 1) n)) h) k) (eq-or-lt_of_le low)
  where
    by : (a + 1 ≤ k → k < a + 1 + n → test k ≡ true) → (a ≡ k) ⊎ (a < k) → test k ≡ true
    by later (inl e) = subst (λ j. test j ≡ true) e (left (test a) (list_all test (range_with_len (a + 1) n)) h)
    by later (inr lt) = later (omega arith) (omega arith)

pub below-passes : (test : ℕ → Bool) (n : ℕ) → list_all test (range_with_len 0 n) ≡ true → (k : ℕ) → k < n → test k ≡ true
below-passes test n h k lt = range-passes test 0 n h k (omega arith) (omega arith)
