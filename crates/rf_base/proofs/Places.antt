-- Facts on the places of two lists side by side.
use Rattle.std.proofs.Common.{◌≡◌, ℕ, List, [], ◌∷◌, length, get_or, set, arith, zero, suc}

-- what holds at each place of both lists, and of the two new items, holds after both are written
pub both-set : {A B : Type 0} (P : A → B → Type 0) (xs : List A) (ys : List B) (a : A) (b : B) (x : A) (y : B) (i : ℕ)
    → length xs ≡ length ys → ((s : ℕ) → P (get_or xs s a) (get_or ys s b)) → P x y
    → (s : ℕ) → P (get_or (set xs i x) s a) (get_or (set ys i y) s b)
both-set P [] [] a b x y i e each here s = each s
both-set P [] (_ ∷ ys) a b x y i e each here s = absurd (omega arith)
both-set P (_ ∷ xs) [] a b x y i e each here s = absurd (omega arith)
both-set P (_ ∷ xs) (_ ∷ ys) a b x y zero e each here zero = here
both-set P (_ ∷ xs) (_ ∷ ys) a b x y zero e each here (suc s) = each (suc s)
both-set P (_ ∷ xs) (_ ∷ ys) a b x y (suc i) e each here zero = each zero
both-set P (_ ∷ xs) (_ ∷ ys) a b x y (suc i) e each here (suc s) =
    both-set P xs ys a b x y i (omega arith) (λ k. each (suc k)) here s

-- the same by places: what holds at each place holds after item i of both lists is written
pub at-set : {A B : Type 0} (P : ℕ → A → B → Type 0) (xs : List A) (ys : List B) (a : A) (b : B) (x : A) (y : B) (i : ℕ)
    → length xs ≡ length ys → ((s : ℕ) → P s (get_or xs s a) (get_or ys s b)) → P i x y
    → (s : ℕ) → P s (get_or (set xs i x) s a) (get_or (set ys i y) s b)
at-set P [] [] a b x y i e each here s = each s
at-set P [] (_ ∷ ys) a b x y i e each here s = absurd (omega arith)
at-set P (_ ∷ xs) [] a b x y i e each here s = absurd (omega arith)
at-set P (_ ∷ xs) (_ ∷ ys) a b x y zero e each here zero = here
at-set P (_ ∷ xs) (_ ∷ ys) a b x y zero e each here (suc s) = each (suc s)
at-set P (_ ∷ xs) (_ ∷ ys) a b x y (suc i) e each here zero = each zero
at-set P (_ ∷ xs) (_ ∷ ys) a b x y (suc i) e each here (suc s) =
    at-set (λ k. P (suc k)) xs ys a b x y i (omega arith) (λ k. each (suc k)) here s

-- only the first list is written
pub one-set : {A B : Type 0} (P : ℕ → A → B → Type 0) (xs : List A) (ys : List B) (a : A) (b : B) (x : A) (i : ℕ)
    → ((s : ℕ) → P s (get_or xs s a) (get_or ys s b)) → P i x (get_or ys i b)
    → (s : ℕ) → P s (get_or (set xs i x) s a) (get_or ys s b)
one-set P [] ys a b x i each here s = each s
one-set P (_ ∷ xs) [] a b x zero each here zero = here
one-set P (_ ∷ xs) [] a b x zero each here (suc s) = each (suc s)
one-set P (_ ∷ xs) [] a b x (suc i) each here zero = each zero
one-set P (_ ∷ xs) [] a b x (suc i) each here (suc s) = one-set (λ k. P (suc k)) xs [] a b x i (λ k. each (suc k)) here s
one-set P (_ ∷ xs) (_ ∷ ys) a b x zero each here zero = here
one-set P (_ ∷ xs) (_ ∷ ys) a b x zero each here (suc s) = each (suc s)
one-set P (_ ∷ xs) (_ ∷ ys) a b x (suc i) each here zero = each zero
one-set P (_ ∷ xs) (_ ∷ ys) a b x (suc i) each here (suc s) = one-set (λ k. P (suc k)) xs ys a b x i (λ k. each (suc k)) here s
