-- How sums over places follow a change at one place.
use Rattle.std.proofs.Common.{◌≡◌, ℕ, zero, suc, ◌+◌, ◌≤◌, ◌<◌, ◌⊎◌, inl, inr, List, length, get_or, set, sym, ap, subst, arith, length-set, get_or-set_same, get_or-set_other}
use Rattle.std.proofs.lemmas.Bool.{cases_eq, cases_lt}
use Rattle.net_weights.specs.Sums.{sum_below, sum_places}

pub sum-le : (f g : ℕ → ℕ) (n : ℕ) → ((k : ℕ) → k < n → g k ≤ f k) → sum_below g n ≤ sum_below f n
sum-le f g zero each = omega arith
sum-le f g (suc n) each =
    let rest = sum-le f g n (λ k lt. each k (omega arith)) in let last = each n (omega arith) in omega arith

-- all but one are no greater
pub sum-but : (f g : ℕ → ℕ) (n k : ℕ) → k < n → ((j : ℕ) → j < n → (j ≡ k → ⊥) → g j ≤ f j) → sum_below g n + f k ≤ sum_below f n + g k
sum-but f g zero k lt each = absurd (omega arith)
sum-but f g (suc n) k lt each = by_place (cases_eq n k) (λ below. sum-but f g n k below (λ j lt. each j (omega arith)))
  where
    by_place : (n ≡ k) ⊎ (n ≡ k → ⊥) → (k < n → sum_below g n + f k ≤ sum_below f n + g k) → sum_below g (suc n) + f k ≤ sum_below f (suc n) + g k
    by_place (inl here) rest =
        let less = sum-le f g n (λ j below. each j (omega arith) (λ same. omega arith)) in
        subst (λ m. sum_below g (suc n) + f m ≤ sum_below f (suc n) + g m) here (omega arith)
    by_place (inr other) rest =
        let less = rest (omega arith) in let last = each n (omega arith) other in omega arith

-- one may be greater by m, wherever it is
pub sum-more : (f g : ℕ → ℕ) (n k m : ℕ) → ((j : ℕ) → j < n → (j ≡ k → ⊥) → g j ≤ f j) → (k < n → g k ≤ f k + m) → sum_below g n ≤ sum_below f n + m
sum-more f g n k m each here = by_place (cases_lt k n)
  where
    by_place : (k < n) ⊎ (n ≤ k) → sum_below g n ≤ sum_below f n + m
    by_place (inl lt) = let all = sum-but f g n k lt each in let one = here lt in omega arith
    by_place (inr past) = let all = sum-le f g n (λ j lt. each j lt (λ same. omega arith)) in omega arith

-- one is less by m
pub sum-less : (f g : ℕ → ℕ) (n k m : ℕ) → k < n → ((j : ℕ) → j < n → (j ≡ k → ⊥) → g j ≤ f j) → g k + m ≤ f k → sum_below g n + m ≤ sum_below f n
sum-less f g n k m lt each here = let all = sum-but f g n k lt each in omega arith

module _ {A : Type 0} (f : ℕ → A → ℕ) (blank : A) (xs : List A) (k : ℕ) (x : A) where
  others : (j : ℕ) → j < length xs → (j ≡ k → ⊥) → f j (get_or (set xs k x) j blank) ≤ f j (get_or xs j blank)
  others j lt ne = let same = ap (f j) (get_or-set_other xs k j x blank ne) in omega arith

  pub places-more : (m : ℕ) → f k x ≤ f k (get_or xs k blank) + m → sum_places f blank (set xs k x) ≤ sum_places f blank xs + m
  places-more m here =
      let all = sum-more (λ j. f j (get_or xs j blank)) (λ j. f j (get_or (set xs k x) j blank)) (length xs) k m others
      (λ lt. let same = ap (f k) (get_or-set_same xs k x blank lt) in omega arith) in
      subst (λ n. sum_below (λ j. f j (get_or (set xs k x) j blank)) n ≤ sum_places f blank xs + m) (sym (length-set xs k x)) all

  pub places-less : (m : ℕ) → k < length xs → f k x + m ≤ f k (get_or xs k blank) → sum_places f blank (set xs k x) + m ≤ sum_places f blank xs
  places-less m lt here =
      let same = ap (f k) (get_or-set_same xs k x blank lt) in
      let all = sum-less (λ j. f j (get_or xs j blank)) (λ j. f j (get_or (set xs k x) j blank)) (length xs) k m lt others (omega arith) in
      subst (λ n. sum_below (λ j. f j (get_or (set xs k x) j blank)) n + m ≤ sum_places f blank xs) (sym (length-set xs k x)) all
