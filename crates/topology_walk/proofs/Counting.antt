-- How many items of a list pass a test.
use Rattle.std.proofs.Common.{◌≡◌, ℕ, ◌+◌, ◌<◌, ◌≤◌, Bool, true, false, List, [], ◌∷◌, ◌++◌, map, refl, ◌∙◌, ap, arith, zero, suc, if◌then◌else◌}
use Rattle.std.specs.Prelude.{Option, ◌==◌, filter_map}
use Rattle.std.specs.List.{AllByRecursion, count_by, filter, flat_map, range_with_len, sum_by}
use Rattle.std.proofs.lemmas.Bool.{eqb-true}
use Rattle.std.proofs.lemmas.List.Elements.{filter_map-append}
use Rattle.std.proofs.lemmas.List.Sums.{sum_by-append, sum_by-cons}

abbrev pub one_if : Bool → ℕ
one_if b = if b then 1 else 0

abbrev pub tally : {A : Type 0} → (A → Bool) → List A → ℕ
tally p [] = 0
tally p (x ∷ xs) = one_if (p x) + tally p xs

pub tally-append : {A : Type 0} (p : A → Bool) (xs ys : List A) → tally p (xs ++ ys) ≡ tally p xs + tally p ys
tally-append p [] ys = omega arith
tally-append p (x ∷ xs) ys = let rest = tally-append p xs ys in omega (arith, rest)

pub tally-none : {A : Type 0} (p : A → Bool) (xs : List A) → AllByRecursion (λ (x : A). p x ≡ false) xs → tally p xs ≡ 0
tally-none p [] none = refl
tally-none p (x ∷ xs) none =
    let here : one_if (p x) ≡ 0 = ap one_if none.0 in
    let rest = tally-none p xs none.1 in
    omega (arith, here, rest)

-- a filter leaves no more
pub tally-filter : {A : Type 0} (p q : A → Bool) (xs : List A) → tally p (filter q xs) ≤ tally p xs
tally-filter p q [] = omega arith
tally-filter p q (x ∷ xs) = by_test (q x) (tally-filter p q xs)
  where
    by_test : (b : Bool) → tally p (filter q xs) ≤ tally p xs → tally p (if b then x ∷ filter q xs else filter q xs) ≤ one_if (p x) + tally p xs
    by_test true rest = omega (arith, rest)
    by_test false rest = omega (arith, rest)

-- in lists joined end to end there are at most as many as parts that have one
pub tally-flat : {A B : Type 0} (p : B → Bool) (q : A → Bool) (h : A → List B) (xs : List A) → ((x : A) → tally p (h x) ≤ one_if (q x)) → tally p (flat_map h xs) ≤ tally q xs
tally-flat p q h [] le = omega arith
tally-flat p q h (x ∷ xs) le =
    let here = le x in
    let both = tally-append p (h x) (flat_map h xs) in
    let rest = tally-flat p q h xs le in
    omega (arith, here, both, rest)

-- a number is at most once among numbers that count up
tally-range : (t a n : ℕ) → (tally (λ k. k == t) (range_with_len a n) ≤ 1) × (t < a → tally (λ k. k == t) (range_with_len a n) ≡ 0)
tally-range t a zero = (omega arith, λ lt. refl)
tally-range t a (suc n) = by_test (tally-range t (a + 1) n) (a == t) refl
  where
    by_test : (tally (λ k. k == t) (range_with_len (a + 1) n) ≤ 1) × (t < a + 1 → tally (λ k. k == t) (range_with_len (a + 1) n) ≡ 0) →
        (b : Bool) → (a == t) ≡ b → (one_if b + tally (λ k. k == t) (range_with_len (a + 1) n) ≤ 1) × (t < a → one_if b + tally (λ k. k == t) (range_with_len (a + 1) n) ≡ 0)
    by_test rest true same =
        let e : a ≡ t = eqb-true a t same in
        let none = rest.1 (omega (arith, e)) in
        (omega (arith, none), λ lt. absurd (omega (arith, lt, e)))
    by_test rest false other =
        let few = rest.0 in
        (omega (arith, few), λ lt. let none = rest.1 (omega (arith, lt)) in omega (arith, none))

pub tally-numbers : (t n : ℕ) → tally (λ k. k == t) (range_with_len 0 n) ≤ 1
tally-numbers t n = (tally-range t 0 n).0

pub tally-map : {A B : Type 0} (p : B → Bool) (h : A → B) (xs : List A) → tally p (map h xs) ≡ tally (λ (x : A). p (h x)) xs
tally-map p h [] = refl
tally-map p h (x ∷ xs) = ap (λ n. one_if (p (h x)) + n) (tally-map p h xs)

-- ---- words of lists

pub filter_map-flat : {A B C : Type 0} (g : B → Option C) (h : A → List B) (xs : List A) → filter_map g (flat_map h xs) ≡ flat_map (λ (x : A). filter_map g (h x)) xs
filter_map-flat g h [] = refl
filter_map-flat {A} {B} {C} g h (x ∷ xs) = filter_map-append g (h x) (flat_map h xs) ∙ ap (λ (ys : List C). filter_map g (h x) ++ ys) (filter_map-flat g h xs)

pub count-flat : {A B : Type 0} (p : B → Bool) (h : A → List B) (xs : List A) → count_by p (flat_map h xs) ≡ sum_by (λ (x : A). count_by p (h x)) xs
count-flat p h [] = refl
count-flat {A} {B} p h (x ∷ xs) =
    let both = sum_by-append (λ (y : B). one_if (p y)) (h x) (flat_map h xs) in
    let rest = count-flat p h xs in
    let more = sum_by-cons (λ (z : A). count_by p (h z)) x xs in
    omega (arith, both, rest, more)
