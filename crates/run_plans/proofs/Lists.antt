-- Places of a list with one more item, and the first place that passes a test.
use Rattle.std.proofs.Common.{◌≡◌, ◌∙◌, ℕ, zero, suc, ◌<◌, ◌≤◌, ◌⊎◌, inl, inr, refl, sym, subst, List, [], ◌∷◌, ◌++◌, Bool, true, false, length, get_or, arith, Option, Some, None}
use Rattle.std.specs.Prelude.{slice_get, IsSome, position}
use Rattle.std.specs.List.{position_or_len}
use Rattle.std.proofs.lemmas.Bool.{cases_lt}
use Rattle.std.proofs.lemmas.Bool.Decides.{nat_tests}
use Rattle.std.proofs.lemmas.List.Sums.{fails_before_first}
use Rattle.std.proofs.lemmas.Option.{slice_get-get_or}

-- what is at a place of a list with one more item
pub data Pushed {A : Type 0} (xs : List A) (x d : A) (k : ℕ) : Type 0 where
  old : k < length xs → get_or (xs ++ x ∷ []) k d ≡ get_or xs k d → Pushed xs x d k
  last : k ≡ length xs → get_or (xs ++ x ∷ []) k d ≡ x → Pushed xs x d k
  past : length xs < k → get_or (xs ++ x ∷ []) k d ≡ d → Pushed xs x d k

module _ {A : Type 0} where
  pub pushed : (xs : List A) (x d : A) (k : ℕ) → Pushed xs x d k
  pushed [] x d zero = last refl refl
  pushed [] x d (suc k) = past (omega arith) refl
  pushed (y ∷ xs) x d zero = old (omega arith) refl
  pushed (y ∷ xs) x d (suc k) = next (pushed xs x d k)
    where
      next : Pushed xs x d k → Pushed (y ∷ xs) x d (suc k)
      next (old lt e) = old (omega arith) e
      next (last is e) = last (omega arith) e
      next (past gt e) = past (omega arith) e

  -- if an item passes, there is a first one that does
  pub position-there : (p : A → Bool) (xs : List A) (k : ℕ) (d : A) → k < length xs → p (get_or xs k d) ≡ true → (i : ℕ) × (position p xs ≡ Some i)
  position-there p xs k d lt passes = by (cases_lt (position_or_len p xs) (length xs))
    where
      by : (position_or_len p xs < length xs) ⊎ (length xs ≤ position_or_len p xs) → (i : ℕ) × (position p xs ≡ Some i)
      by (inl below) = (position_or_len p xs, grind (arith, nat_tests))
      by (inr none) =
          let fails : p (get_or xs k d) ≡ false = fails_before_first p xs k d (omega arith) in
          let z : true ≡ false = sym passes ∙ fails in
          absurd cc

  pub get_there : (xs : List A) (k : ℕ) → k < length xs → (x : A) × (slice_get xs k ≡ Some x)
  get_there [] k lt = absurd (omega arith)
  get_there (x ∷ xs) k lt = (get_or (x ∷ xs) k x, slice_get-get_or (x ∷ xs) k x lt)

  pub some_from : (o : Option A) (x : A) → o ≡ Some x → IsSome o
  some_from o x e = subst IsSome (sym e) refl

  pub from_some : (o : Option A) → IsSome o → (x : A) × (o ≡ Some x)
  from_some (Some x) h = (x, refl)
  from_some None h = let z : false ≡ true = h in absurd cc
