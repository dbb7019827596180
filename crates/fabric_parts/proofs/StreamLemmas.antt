-- Sums of the sizes of what is taken.
use Rattle.std.proofs.Common.{◌≡◌, ℕ, ◌+◌, ◌-◌, ◌≤◌, List, [], ◌∷◌, length, drop, take, sum, refl, ap, sym, arith, length-take, length-drop, slice_get}
use Rattle.std.specs.Prelude.{unwrap_or}
use Rattle.std.proofs.lemmas.List.Sums.{sum_by-cons, sum_by-take-drop, sum_by-take-le}
use Rattle.stream_endpoint.specs.Counts.{minus}
use Rattle.stream_endpoint.specs.declared.count.Count.{Count}
use Rattle.net_present.specs.StreamSteps.{sum_now}

-- the first of a list and the rest have its sum
pub sum-first : (xs : List ℕ) → unwrap_or (slice_get xs 0) 0 + sum (drop 1 xs) ≡ sum xs
sum-first [] = refl
sum-first (x ∷ xs) = sym (sum_by-cons (λ (n : ℕ). n) x xs)

-- what isn't left of a sum was taken
pub sum-taken : (xs : List ℕ) (i : ℕ) (rest : List ℕ) (count : ℕ) → rest ≡ drop i xs → count + sum rest ≡ sum xs →
    count ≡ sum (take i xs)
sum-taken xs i rest count left is = omega (arith, sum_by-take-drop (λ n. n) xs i, ap sum left)

pub sum-most : (xs : List ℕ) (i : ℕ) → sum (take i xs) ≤ sum xs
sum-most xs i = sum_by-take-le (λ n. n) xs i

-- what is buffered once the first sizes are taken
pub taken-buffered : (sizes : List ℕ) (k : ℕ) (held : Count) → held ≡ sum_now sizes → k ≤ length sizes →
    minus held (sum_now (take k sizes)) ≡ sum_now (drop k sizes)
taken-buffered sizes k held is within =
    let packets : length sizes - length (take k sizes) ≡ length (drop k sizes) = omega (arith, length-take k sizes, length-drop k sizes) in
    let bytes : sum sizes - sum (take k sizes) ≡ sum (drop k sizes) = omega (arith, sum_by-take-drop (λ n. n) sizes k) in
    rw is cc
