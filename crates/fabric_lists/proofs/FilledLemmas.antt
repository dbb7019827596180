-- A list of which the first items are known, and the others are all one: how flags stand while they are set one by one.
use Rattle.std.proofs.Common.{◌≡◌, ℕ, zero, suc, ◌+◌, ◌<◌, ◌≤◌, Bool, false, List, [], ◌∷◌, length, refl, sym, ◌∙◌, ap, get_or, set, arith}
use Rattle.std.specs.Prelude.{map, replicate}

-- the first n of these items, and others in place of the rest
abbrev pub filled : {A : Type 0} → List A → ℕ → A → List A
filled [] n other = []
filled (x ∷ xs) zero other = other ∷ filled xs zero other
filled (x ∷ xs) (suc n) other = x ∷ filled xs n other

pub filled_count : {A : Type 0} (xs : List A) (n : ℕ) (other : A) → length (filled xs n other) ≡ length xs
filled_count [] n other = refl
filled_count (x ∷ xs) zero other = ap suc (filled_count xs zero other)
filled_count (x ∷ xs) (suc n) other = ap suc (filled_count xs n other)

-- one item more
pub filled_more : {A : Type 0} (xs : List A) (n : ℕ) (x other : A) → n < length xs → x ≡ get_or xs n x
    → set (filled xs n other) n x ≡ filled xs (n + 1) other
filled_more [] n x other there is = absurd (omega arith)
filled_more (y ∷ ys) zero x other there is = ap (λ z. z ∷ filled ys zero other) is
filled_more (y ∷ ys) (suc n) x other there is =
    let e : suc n + 1 ≡ suc (n + 1) = omega arith in
    ap (λ zs. y ∷ zs) (filled_more ys n x other (omega arith) is) ∙ sym (ap (λ m. filled (y ∷ ys) m other) e)

-- all of them
pub filled_all : {A : Type 0} (xs : List A) (n : ℕ) (other : A) → length xs ≤ n → filled xs n other ≡ xs
filled_all [] n other all = refl
filled_all (x ∷ xs) zero other all = absurd (omega arith)
filled_all (x ∷ xs) (suc n) other all = ap (λ ys. x ∷ ys) (filled_all xs n other (omega arith))

-- what is false of the other item is false of all while no item is known
pub filled_none : {A : Type 0} (test : A → Bool) (xs : List A) (other : A) → test other ≡ false
    → replicate (length xs) false ≡ map test (filled xs 0 other)
filled_none test [] other none = refl
filled_none test (x ∷ xs) other none =
    ap (λ b. b ∷ replicate (length xs) false) (sym none) ∙ ap (λ bs. test other ∷ bs) (filled_none test xs other none)
