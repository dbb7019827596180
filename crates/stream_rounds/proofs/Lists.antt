-- Lists that begin others, and places of lists.
use Rattle.std.proofs.Common.{◌≡◌, ℕ, zero, suc, ◌+◌, List, [], ◌∷◌, ◌++◌, drop, refl, sym, ap, ◌∙◌, append_assoc, zero-add, suc-add}
use Rattle.std.specs.Prelude.{None, Some, slice_get}
use Rattle.std.proofs.lemmas.List.{append-nil}
use mathlib.Core.List.{IsPrefix}

module _ {A : Type 0} where
  pub begins_itself : (xs : List A) → IsPrefix xs xs
  begins_itself xs = ([], append-nil xs)

  pub begins_grown : (xs zs : List A) → IsPrefix xs (xs ++ zs)
  begins_grown xs zs = (zs, refl)

  pub begins_chain : (xs ys zs : List A) → IsPrefix xs ys → IsPrefix ys zs → IsPrefix xs zs
  begins_chain xs ys zs p q = (
    p.0 ++ q.0,
    sym (append_assoc xs p.0 q.0) ∙ ap (λ (l : List A). l ++ q.0) p.1 ∙ q.1,
  )

  pub begins_more : (xs ys : List A) (x : A) → IsPrefix xs ys → IsPrefix xs (ys ++ x ∷ [])
  begins_more xs ys x p = begins_chain xs ys (ys ++ x ∷ []) p (begins_grown ys (x ∷ []))

  pub slice_get-drop : (n : ℕ) (xs : List A) (k : ℕ) → slice_get (drop n xs) k ≡ slice_get xs (n + k)
  slice_get-drop zero xs k = ap (λ (j : ℕ). slice_get xs j) (sym (zero-add k))
  slice_get-drop (suc n) [] k = refl
  slice_get-drop (suc n) (x ∷ xs) k = slice_get-drop n xs k ∙ ap (λ (j : ℕ). slice_get (x ∷ xs) j) (sym (suc-add n k))

  -- the first and the rest
  pub first_rest : (xs : List A) (x : A) → slice_get xs 0 ≡ Some x → xs ≡ x ∷ drop 1 xs
  first_rest [] x is = cc
  first_rest (y ∷ ys) x is = let same : y ≡ x = cc in ap (λ (z : A). z ∷ ys) same

  pub none_first : (xs : List A) → slice_get xs 0 ≡ None → xs ≡ []
  none_first [] is = refl
  none_first (y ∷ ys) is = cc
