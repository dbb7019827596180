-- What a map from properties to numbers has, as the list of its pairs.
use Rattle.std.proofs.Common.{[], ◌∷◌, cond, ◌≡◌, ◌≢◌, ℕ, Bool, true, false, List, Contains, Option, Some, None, IfSome, IfNone, refl, sym, ap, ◌∙◌, inl, inr, ◌⊎◌, true≢false, unwrap_or}
use Rattle.std.specs.Map.{lookup, keys_of}
use Rattle.std.specs.List.{IsDistinct}
use Rattle.indexmap.specs.IndexMap.{insert_entry}
use Rattle.std.specs.HashMap.{HashMap, IsUnique, Updates}
use Rattle.std.proofs.lemmas.Map.Views.{Contains-from_lookup, lookup-from_Contains}
use Rattle.graph_core.specs.declared.place.PropAt.{PropAt}
use Rattle.graph_core.specs.contracts.place.PropAtPartialEq.TheImpl.{eq-value}
use Rattle.graph_core.specs.Pairs.{Pair, Lacks, IsPut, with_value}
use Rattle.graph_core.proofs.Keys.{same_key, key_laws, same_itself}

module _ (es : List Pair) (at : PropAt) where
  pub held : (r : Option ℕ) → r ≡ lookup (eq-value.it at) es → IfSome r (λ v. Contains es (at, v))
  held None e = tt
  held (Some v) e = Contains-from_lookup same_key at v es (sym e)

  pub lacking : IsDistinct eq-value.it (keys_of es) → (r : Option ℕ) → r ≡ lookup (eq-value.it at) es → IfNone r (Lacks es at)
  lacking unique None e = λ v h. let clash : ◌≡◌ {A = Option ℕ} None (Some v) = e ∙ lookup-from_Contains key_laws at v es unique h in cc
  lacking unique (Some v) e = tt

  pub absent : Lacks es at → lookup (eq-value.it at) es ≡ None
  absent h = by (lookup (eq-value.it at) es) refl
    where
      by : (r : Option ℕ) → r ≡ lookup (eq-value.it at) es → lookup (eq-value.it at) es ≡ None
      by None e = sym e
      by (Some v) e = absurd (h v (Contains-from_lookup same_key at v es (sym e)))

same_some : {u v : ℕ} → Some u ≡ Some v → u ≡ v
same_some {u} e = ap (λ o. unwrap_or o u) e

module _ {S : Type 0} (m n : HashMap PropAt ℕ S) (at : PropAt) (value : ℕ) where
  pub put : IsUnique eq-value.it m → IsUnique eq-value.it n → Updates eq-value.it m n at (Some value) → IsPut m.entries n.entries at value
  put one two up = record {
    has = Contains-from_lookup same_key at value n.entries up.1;
    kept = λ q u ne h. Contains-from_lookup same_key q u n.entries (up.2 q (apart q ne) ∙ lookup-from_Contains key_laws q u m.entries one h);
    only = λ q u h. by q u (eq-value.it at q) refl (lookup-from_Contains key_laws q u n.entries two h);
  }
    where
      apart : (q : PropAt) → q ≢ at → eq-value.it at q ≡ false
      apart q ne = off (eq-value.it at q) refl
        where
          off : (b : Bool) → eq-value.it at q ≡ b → b ≡ false
          off true e = absurd (ne (sym (same_key at q e)))
          off false e = refl

      by : (q : PropAt) (u : ℕ) (b : Bool) → eq-value.it at q ≡ b → lookup (eq-value.it q) n.entries ≡ Some u → ((q ≡ at) × (u ≡ value)) ⊎ ((q ≢ at) × Contains m.entries (q, u))
      by q u true e look =
          let same : q ≡ at = sym (same_key at q e) in
          inl (same, same_some (sym look ∙ ap (λ p. lookup (eq-value.it p) n.entries) same ∙ up.1))
      by q u false e look = inr (λ same. true≢false (sym (same_itself at) ∙ ap (eq-value.it at) (sym same) ∙ e), Contains-from_lookup same_key q u m.entries (sym (up.2 q e) ∙ look))

-- the map's own insertion is the definition
pub inserted : (es : List Pair) (at : PropAt) (value : ℕ) → insert_entry eq-value.it es at value ≡ with_value es at value
unfolding with_value
inserted [] at value = refl
inserted (e ∷ es) at value =
    ap (λ rest. cond (eq-value.it at e.0) ((e.0, value) ∷ es) (e ∷ rest)) (inserted es at value)
