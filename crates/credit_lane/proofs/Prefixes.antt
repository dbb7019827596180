-- Lists that begin others, and two numbers of one window.
use Rattle.std.proofs.Common.{◌≡◌, ◌≢◌, ℕ, zero, suc, ◌+◌, ◌%◌, ◌<◌, ◌≤◌, List, [], ◌∷◌, ◌++◌, length}
use Rattle.std.proofs.Common.{slice_get, Some, refl, sym, ap, subst, ◌∙◌, unwrap_or, append_assoc}
use Rattle.std.proofs.Common.{append-nil, length-append, lt_of_not-le, arith}
use mathlib.Core.List.{IsPrefix}
use native.Mathlib.Decide.{dec_le}
use Rattle.std.proofs.lemmas.Option.{none-some}
use Rattle.atomic_table.proofs.Lists.{one_turn}

module _ {A : Type 0} where
  pub begins_itself : (xs : List A) → IsPrefix xs xs
  begins_itself xs = ([], append-nil xs)

  pub begins_longer : (xs ys zs : List A) → IsPrefix xs ys → IsPrefix xs (ys ++ zs)
  begins_longer xs ys zs p = (
    p.0 ++ zs,
    sym (append_assoc xs p.0 zs) ∙ ap
        (λ (l : List A). l ++ zs) p.1,
  )

  pub begins_grown : (xs zs : List A) → IsPrefix xs (xs ++ zs)
  begins_grown xs zs = (zs, refl)

  pub begins_chain : (xs ys zs : List A) → IsPrefix xs ys → IsPrefix ys zs → IsPrefix xs zs
  begins_chain xs ys zs p q = (
    p.0 ++ q.0,
    sym (append_assoc xs p.0 q.0) ∙ ap
        (λ (l : List A). l ++ q.0) p.1 ∙ q.1,
  )

  pub no_longer : (xs ys : List A) → IsPrefix xs ys → length xs ≤ length ys
  no_longer xs ys p = let a = length-append xs p.0 in let b = ap length p.1 in omega arith

  pub get_before : (xs zs : List A) (k : ℕ) → k < length xs → slice_get (xs ++ zs) k ≡ slice_get xs k
  get_before [] zs k h = absurd (omega arith)
  get_before (x ∷ xs) zs zero h = refl
  get_before (x ∷ xs) zs (suc k) h = get_before xs zs k (omega arith)

  pub get_last : (xs : List A) (x : A) → slice_get (xs ++ x ∷ []) (length xs) ≡ Some x
  get_last [] x = refl
  get_last (y ∷ ys) x = get_last ys x

  pub get_apart : (xs : List A) (x : A) (k : ℕ) → k ≢ length xs → slice_get
      (xs ++ x ∷ []) k ≡ slice_get xs k
  get_apart [] x zero ne = absurd (ne refl)
  get_apart [] x (suc k) ne = refl
  get_apart (y ∷ ys) x zero ne = refl
  get_apart (y ∷ ys) x (suc k) ne = get_apart ys x k (λ e. ne (ap suc e))

  pub get_in_longer : (xs ys : List A) (k : ℕ) → IsPrefix xs ys → k < length xs
      → slice_get xs k ≡ slice_get ys k
  get_in_longer xs ys k p h = sym (get_before xs p.0 k h) ∙ ap (λ (l : List A). slice_get l k) p.1

  first_of_rest : (xs zs : List A) (x : A) → slice_get (xs ++ zs) (length xs) ≡ Some x → IsPrefix
      (xs ++ x ∷ []) (xs ++ zs)
  first_of_rest [] [] x e = absurd (none-some x e)
  first_of_rest [] (z ∷ zs) x e = (zs, λ k. sym (ap (λ o. unwrap_or o z) e) k ∷ zs)
  first_of_rest (y ∷ ys) zs x e = let p = first_of_rest ys zs x e in (p.0, λ k. y ∷ p.1 k)

  -- a beginning, and then the next one
  pub begins_next : (xs ys : List A) (x : A) → IsPrefix xs ys → slice_get ys (length xs) ≡ Some x
      → IsPrefix (xs ++ x ∷ []) ys
  begins_next xs ys x p e = subst (λ (l : List A). IsPrefix (xs ++ x ∷ []) l) p.1
      (first_of_rest xs p.0 x (ap (λ (l : List A). slice_get l (length xs)) p.1 ∙ e))

  -- within a list there is a next one
  pub has_next : (ys : List A) (k : ℕ) → k < length ys → (x : A) × (slice_get ys k ≡ Some x)
  has_next [] k h = absurd (omega arith)
  has_next (y ∷ ys) zero h = (y, refl)
  has_next (y ∷ ys) (suc k) h = has_next ys k (omega arith)

other_slot : (n j k : ℕ) → j < k + n → k < j + n → j ≢ k → Dec (j ≤ k) → j % n ≢ k % n
other_slot n j k a b ne (yes le) = λ e. ne (one_turn j k n le b e)
other_slot n j k a b ne (no gt) = let lt = lt_of_not-le gt in λ e. ne
    (sym (one_turn k j n (omega arith) a (sym e)))

-- two numbers of one window lie in different slots
pub apart : (g n j k : ℕ) → g ≤ j → j < g + n → g ≤ k → k < g + n → j ≢ k → j % n ≢ k % n
apart g n j k a b c d ne = other_slot n j k (omega arith) (omega arith) ne (dec_le j k)
