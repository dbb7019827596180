-- Derivations: what is in one is in every closed one, and no property has two values.
use Rattle.std.proofs.Common.{◌≡◌, ◌∙◌, ℕ, ◌⊎◌, inl, inr, ⊎_elim, sym, ap, subst, List, [], ◌∷◌, ◌++◌, Contains, arith}
use Rattle.std.proofs.lemmas.List.Elements.{Contains-push_cases}
use Rattle.graph_core.specs.declared.place.PropAt.{PropAt}
use Rattle.graph_core.specs.Derivation.{Diagram, IsDerivation, IsClosed, ClosedIsUnique}
use Rattle.graph_core.specs.Derivation.IsDerivation.{none, set, given}
use Rattle.graph_core.specs.Pairs.{Pair, Lacks}

pub none_in : {X : Type 0} (x : X) → Contains [] x → ⊥
none_in x h = omega arith

-- a pair of a list that was pushed to
pub pushed_pair : (pairs earlier : List Pair) (at : PropAt) (value : ℕ) → pairs ≡ earlier ++ (at, value) ∷ [] → (q : PropAt) (u : ℕ) → Contains pairs (q, u)
    → Contains earlier (q, u) ⊎ ((at ≡ q) × (value ≡ u))
pushed_pair pairs earlier at value e q u has = ⊎_elim (λ old. inl old) (λ new. inr (ap (λ p. p.0) new, ap (λ p. p.1) new))
    (Contains-push_cases earlier (at, value) (q, u) (subst (λ l. Contains l (q, u)) e has))

module _ (diagram : Diagram) where
  pub included : (pairs other : List Pair) → IsDerivation diagram pairs → IsClosed diagram other → (q : PropAt) (u : ℕ) → Contains pairs (q, u) → Contains other (q, u)
  included pairs other none closed q u has = absurd (none_in (q, u) has)
  included pairs other (set earlier at value sub user lacks e) closed q u has = ⊎_elim
      (λ old. included earlier other sub closed q u old)
      (λ new. subst (λ p. Contains other (p, u)) new.0 (subst (λ n. Contains other (at, n)) new.1 (closed.users at value user)))
      (pushed_pair pairs earlier at value e q u has)
  included pairs other (given earlier at value by from number sub there gives lacks e) closed q u has = ⊎_elim
      (λ old. included earlier other sub closed q u old)
      (λ new. subst (λ p. Contains other (p, u)) new.0 (subst (λ n. Contains other (at, n)) new.1
      ((closed.spread from number (included earlier other sub closed from number there)).given by at value gives)))
      (pushed_pair pairs earlier at value e q u has)

  -- one value at most, where the last pair's property was lacking
  one_more : (pairs earlier : List Pair) (at : PropAt) (value : ℕ) → Lacks earlier at → pairs ≡ earlier ++ (at, value) ∷ []
      → ((q : PropAt) (u w : ℕ) → Contains earlier (q, u) → Contains earlier (q, w) → u ≡ w)
      → (q : PropAt) (u w : ℕ) → Contains pairs (q, u) → Contains pairs (q, w) → u ≡ w
  one_more pairs earlier at value lacks e one q u w a b = by (pushed_pair pairs earlier at value e q u a) (pushed_pair pairs earlier at value e q w b)
    where
      by : Contains earlier (q, u) ⊎ ((at ≡ q) × (value ≡ u)) → Contains earlier (q, w) ⊎ ((at ≡ q) × (value ≡ w)) → u ≡ w
      by (inl x) (inl y) = one q u w x y
      by (inl x) (inr y) = absurd (lacks u (subst (λ p. Contains earlier (p, u)) (sym y.0) x))
      by (inr x) (inl y) = absurd (lacks w (subst (λ p. Contains earlier (p, w)) (sym x.0) y))
      by (inr x) (inr y) = sym x.1 ∙ y.1

  pub one_value : (pairs : List Pair) → IsDerivation diagram pairs → (q : PropAt) (u w : ℕ) → Contains pairs (q, u) → Contains pairs (q, w) → u ≡ w
  one_value pairs none q u w a b = absurd (none_in (q, u) a)
  one_value pairs (set earlier at value sub user lacks e) q u w a b = one_more pairs earlier at value lacks e (one_value earlier sub) q u w a b
  one_value pairs (given earlier at value by from number sub there gives lacks e) q u w a b = one_more pairs earlier at value lacks e (one_value earlier sub) q u w a b

pub closed_is_unique : ClosedIsUnique
closed_is_unique diagram one other a b at value has = included diagram one other a.derivation b at value has
