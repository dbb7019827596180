-- The first of a row of candidates that passes a test.
use Rattle.std.proofs.Common.{◌≡◌, ℕ, ◌+◌, ◌≤◌, ◌<◌, ◌⊎◌, List, [], ◌∷◌, Bool, true, false, cond, map, refl, sym, ap, subst, arith, zero, suc, inl, inr}
use Rattle.std.specs.Prelude.{None, Some}
use Rattle.std.specs.List.{find, range_with_len}
use Rattle.std.proofs.Math.Nat.{eq-or-lt_of_le}

-- what is found passes
pub find-passes : {X : Type 0} (p : X → Bool) (xs : List X) (x : X) → find p xs ≡ Some x → p x ≡ true
find-passes p [] x e = cc
find-passes {X} p (y ∷ ys) x e = by_test (find-passes p ys x) (p y) refl e
  where
    by_test : (find p ys ≡ Some x → p x ≡ true) → (b : Bool) → p y ≡ b → cond b (Some y) (find p ys) ≡ Some x → p x ≡ true
    by_test later true is found = let same : y ≡ x = cc in subst (λ (z : X). p z ≡ true) same is
    by_test later false is found = later found

-- if nothing is found, no candidate passes
pub find-misses : {X : Type 0} (p : X → Bool) (f : ℕ → X) (a n : ℕ) → find p (map f (range_with_len a n)) ≡ None →
    (k : ℕ) → a ≤ k → k < a + n → p (f k) ≡ false
find-misses p f a zero none k low high = absurd (omega arith)
find-misses {X} p f a (suc n) none k low high =
    by_test (λ later lt. find-misses p f (a + 1) n later k lt (omega arith)) (p (f a)) refl none
  where
    by_place : p (f a) ≡ false → (a + 1 ≤ k → p (f k) ≡ false) → (a ≡ k) ⊎ (a < k) → p (f k) ≡ false
    by_place here later (inl e) = subst (λ (j : ℕ). p (f j) ≡ false) e here
    by_place here later (inr lt) = later (omega arith)

    by_test : (find p (map f (range_with_len (a + 1) n)) ≡ None → a + 1 ≤ k → p (f k) ≡ false)
        → (b : Bool) → p (f a) ≡ b → cond b (Some (f a)) (find p (map f (range_with_len (a + 1) n))) ≡ None → p (f k) ≡ false
    by_test later true is found = cc
    by_test later false is found = by_place is (later found) (eq-or-lt_of_le low)

-- if no candidate passes, nothing is found
pub find-nowhere : {X : Type 0} (p : X → Bool) (f : ℕ → X) (a n : ℕ) →
    ((k : ℕ) → a ≤ k → k < a + n → p (f k) ≡ false) → find p (map f (range_with_len a n)) ≡ None
find-nowhere p f a zero misses = refl
find-nowhere p f a (suc n) misses =
    let here : p (f a) ≡ false = misses a (omega arith) (omega arith) in
    rw here (find-nowhere p f (a + 1) n (λ k low high. misses k (omega arith) (omega arith)))

-- the first that passes is found
pub find-first : {X : Type 0} (p : X → Bool) (f : ℕ → X) (a n s : ℕ) → a ≤ s → s < a + n →
    ((k : ℕ) → a ≤ k → k < s → p (f k) ≡ false) → p (f s) ≡ true → find p (map f (range_with_len a n)) ≡ Some (f s)
find-first p f a zero s low high misses passes = absurd (omega arith)
find-first {X} p f a (suc n) s low high misses passes =
    by_place (λ lt. find-first p f (a + 1) n s lt (omega arith) (λ k l h. misses k (omega arith) h) passes) (eq-or-lt_of_le low)
  where
    by_place : (a + 1 ≤ s → find p (map f (range_with_len (a + 1) n)) ≡ Some (f s)) → (a ≡ s) ⊎ (a < s) → cond (p (f a)) (Some (f a)) (find p (map f (range_with_len (a + 1) n))) ≡ Some (f s)
    by_place later (inl e) =
        let here : p (f a) ≡ true = subst (λ (j : ℕ). p (f j) ≡ true) (sym e) passes in
        rw here (ap (λ (j : ℕ). Some (f j)) e)
    by_place later (inr lt) =
        let here : p (f a) ≡ false = misses a (omega arith) lt in
        rw here (later (omega arith))
