-- Sums of a number over places.
use Rattle.std.specs.Prelude.{ℕ, zero, suc, ◌+◌, List, length, slice_index_or}

-- the sum over the numbers below n
abbrev pub sum_below : (ℕ → ℕ) → ℕ → ℕ
sum_below f zero = 0
sum_below f (suc n) = sum_below f n + f n

-- the sum over the items of a list, each with its place
abbrev pub sum_places : {A : Type 0} → (ℕ → A → ℕ) → A → List A → ℕ
sum_places f blank xs = sum_below (λ k. f k (slice_index_or xs k blank)) (length xs)
