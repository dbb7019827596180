-- The user's pairs, taken up one by one.
use Rattle.std.proofs.Common.{◌≡◌, ◌∙◌, ℕ, ◌+◌, ◌<◌, ◌≤◌, ⊎_elim, sym, ap, subst, List, [], ◌∷◌, ◌++◌, length, Contains, Some, None, Option, slice_get, zero, suc, arith}
use Rattle.std.proofs.lemmas.Bool.{cases_eq}
use Rattle.std.proofs.lemmas.List.Elements.{Contains-append_left, Contains-append_right, Contains-push}
use Rattle.graph_core.specs.declared.place.PropAt.{PropAt}
use Rattle.graph_core.specs.Derivation.{Diagram, IsDerivation}
use Rattle.graph_core.specs.Derivation.IsDerivation.{none, set}
use Rattle.graph_core.specs.Pairs.{Pair}
use Rattle.graph_core.proofs.Laws.{none_in, pushed_pair}
use Rattle.property_resolver.specs.Spreads.{Keeps, HasAll}
use Rattle.property_resolver.specs.Spreads.Keeps.{stays, taken}
use Rattle.property_resolver.proofs.Learned.{same_item, got}

-- an item that is read is in the list, and the other way round
pub read_in : {X : Type 0} (xs : List X) (i : ℕ) (x : X) → slice_get xs i ≡ Some x → (i < length xs) × Contains xs x
read_in [] i x e = let z : ◌≡◌ {A = Option _} None (Some x) = e in cc
read_in (y ∷ ys) zero x e = (omega arith, (0, omega arith, same_item e))
read_in (y ∷ ys) (suc i) x e = let r = read_in ys i x e in (omega (arith, r.0), Contains-append_right (y ∷ []) ys x r.1)

pub in_read : {X : Type 0} (xs : List X) (x : X) → Contains xs x → (i : ℕ) × (i < length xs) × (slice_get xs i ≡ Some x)
in_read xs x h = (h.0, h.1, got xs h.0 x h.1 ∙ ap (λ y. Some y) h.2)

-- what stands after the first user's pairs were taken up
pub record Started (diagram : Diagram) (pairs : List Pair) (count : ℕ) : Type 0 where
  pub derivation : IsDerivation diagram pairs
  pub has : (k : ℕ) (at : PropAt) (value : ℕ) → k < count → slice_get diagram.users k ≡ Some (at, value) → Contains pairs (at, value)
  pub only : (at : PropAt) (value : ℕ) → Contains pairs (at, value) → Contains diagram.users (at, value)

module _ (diagram : Diagram) where
  pub started_none : Started diagram [] 0
  started_none = record { derivation = none; has = λ k at value lt. absurd (omega arith); only = λ at value h. absurd (none_in (at, value) h) }

  pub started_all : (pairs : List Pair) (count : ℕ) → length diagram.users ≤ count → Started diagram pairs count → HasAll diagram.users pairs
  started_all pairs count all so at value h = let r = in_read diagram.users (at, value) h in so.has r.0 at value (omega (arith, r.1)) r.2

  pub started_past : (pairs : List Pair) (count : ℕ) → slice_get diagram.users count ≡ None → Started diagram pairs count → Started diagram pairs (count + 1)
  started_past pairs count past so = record {
    derivation = so.derivation;
    has = λ k at value lt e. ⊎_elim
        (λ i. let z : ◌≡◌ {A = Option Pair} None (Some (at, value)) = sym past ∙ subst (λ j. slice_get diagram.users j ≡ Some (at, value)) i e in absurd cc)
        (λ other. so.has k at value (omega arith) e)
        (cases_eq k count);
    only = so.only;
  }

  module _ (single : (at : PropAt) (one other : ℕ) → Contains diagram.users (at, one) → Contains diagram.users (at, other) → one ≡ other)
      (old new : List Pair) (count : ℕ) (at : PropAt) (value : ℕ) (so : Started diagram old count) (stands : slice_get diagram.users count ≡ Some (at, value)) where
    user : Contains diagram.users (at, value)
    user = (read_in diagram.users count (at, value) stands).1

    pub started_more : Keeps old new at value → Started diagram new (count + 1)
    started_more (stays held same) = subst (λ l. Started diagram l (count + 1)) (sym same) (record {
      derivation = so.derivation;
      has = λ k q u lt e. ⊎_elim
          (λ i. let both = same_item (sym stands ∙ subst (λ j. slice_get diagram.users j ≡ Some (q, u)) i e) in
          subst (λ p. Contains old p) both (subst (λ n. Contains old (at, n)) (single at held.0 value (so.only at held.0 held.1) user) held.1))
          (λ other. so.has k q u (omega arith) e)
          (cases_eq k count);
      only = so.only;
    })
    started_more (taken lacks more) = record {
      derivation = set old at value so.derivation user lacks more;
      has = λ k q u lt e. subst (λ l. Contains l (q, u)) (sym more) (⊎_elim
          (λ i. let both = same_item (sym stands ∙ subst (λ j. slice_get diagram.users j ≡ Some (q, u)) i e) in
          subst (λ p. Contains (old ++ (at, value) ∷ []) p) both (Contains-push old (at, value)))
          (λ other. Contains-append_left old ((at, value) ∷ []) (q, u) (so.has k q u (omega arith) e))
          (cases_eq k count));
      only = λ q u h. ⊎_elim (λ before. so.only q u before) (λ now. subst (λ p. Contains diagram.users (p, u)) now.0 (subst (λ n. Contains diagram.users (at, n)) now.1 user))
          (pushed_pair new old at value more q u h);
    }
