-- A derivation takes up a value that a rule gives.
use Rattle.std.proofs.Common.{◌≡◌, ◌∙◌, ℕ, ◌+◌, ◌<◌, ⊎_elim, refl, sym, ap, subst, List, [], ◌∷◌, ◌++◌, length, get_or, Contains, Option, Some, None, slice_get, zero, suc, unwrap_or, arith, append_assoc}
use Rattle.std.proofs.lemmas.List.{append-nil}
use Rattle.std.proofs.lemmas.Bool.{cases_eq}
use Rattle.std.proofs.lemmas.List.Elements.{Contains-append_left, Contains-push}
use Rattle.graph_core.specs.declared.place.Side.{Side}
use Rattle.graph_core.specs.declared.place.PropAt.{PropAt}
use Rattle.graph_core.specs.declared.place.Rule.{Rule}
use Rattle.block_library.specs.declared.kind.BlockKind.{BlockKind}
use Rattle.property_resolver.specs.declared.fault.CommitFault.{CommitFault}
use Rattle.property_resolver.specs.declared.fault.CommitFault.TheVariants.{Clash, NotWhole, Unsettled, Memory}
use Rattle.graph_core.specs.Derivation.{Diagram, IsDerivation, Gives, carried}
use Rattle.graph_core.specs.Derivation.IsDerivation.{given}
use Rattle.graph_core.specs.declared.place.Rule.TheVariants.{Block as block_rule}
use Rattle.std.specs.Option.{option_map_or}
use Rattle.graph_core.specs.Ports.{port_count}
use Rattle.graph_core.specs.Pairs.{Pair}
use Rattle.property_resolver.specs.Causes.{IsCause}
use Rattle.property_resolver.specs.Spreads.{Learns, Contradicts, Grows, PortsSpread, beside}
use Rattle.property_resolver.specs.Spreads.Learns.{known, added}

same_some : {u v : ℕ} → Some u ≡ Some v → u ≡ v
same_some {u} e = ap (λ o. unwrap_or o u) e

pub same_item : {X : Type 0} {u v : X} → Some u ≡ Some v → u ≡ v
same_item {X} {u} e = ap (λ o. unwrap_or o u) e

pub got : {X : Type 0} (xs : List X) (i : ℕ) (d : X) → i < length xs → slice_get xs i ≡ Some (get_or xs i d)
got [] i d h = absurd (omega arith)
got (x ∷ xs) zero d h = refl
got (x ∷ xs) (suc i) d h = got xs i d (omega arith)

module _ (diagram : Diagram) where
  pub grows_none : (pairs : List Pair) → IsDerivation diagram pairs → Grows diagram pairs pairs
  grows_none pairs d = record { derivation = d; added = []; front = sym (append-nil pairs) }

  pub kept : (old new : List Pair) → Grows diagram old new → (at : PropAt) (value : ℕ) → Contains old (at, value) → Contains new (at, value)
  kept old new g at value has = subst (λ l. Contains l (at, value)) (sym g.front) (Contains-append_left old g.added (at, value) has)

  pub grows_more : (old mid new : List Pair) → Grows diagram old mid → Grows diagram mid new → Grows diagram old new
  grows_more old mid new a b = record {
    derivation = b.derivation;
    added = a.added ++ b.added;
    front = b.front ∙ ap (λ l. l ++ b.added) a.front ∙ append_assoc old a.added b.added;
  }

  module _ (old new : List Pair) (at : PropAt) (value : ℕ) where
    -- the value that a rule gives from one of the pairs keeps a derivation
    pub learns_grows : Learns old new at value → IsDerivation diagram old → (by : Rule) (from : PropAt) (number : ℕ) → Contains old (from, number)
        → Gives diagram by from number at (Some value) → Grows diagram old new
    learns_grows (known has same) d by from number there gives = subst (Grows diagram old) (sym same) (grows_none old d)
    learns_grows (added lacks more) d by from number there gives =
        record { derivation = given old at value by from number d there gives lacks more; added = (at, value) ∷ []; front = more }

    pub learnt : Learns old new at value → Contains new (at, value)
    learnt (known has same) = subst (λ l. Contains l (at, value)) (sym same) has
    learnt (added lacks more) = subst (λ l. Contains l (at, value)) (sym more) (Contains-push old (at, value))

  -- where another value stands, the refusal has a cause
  pub contradicted : (pairs : List Pair) (at : PropAt) (value : ℕ) → IsDerivation diagram pairs → (by : Rule) (from : PropAt) (number : ℕ) → Contains pairs (from, number)
      → Gives diagram by from number at (Some value) → (fault : CommitFault) → Contradicts pairs by at value fault → IsCause diagram fault
  contradicted pairs at value d by from number there gives (Clash rule prop held derived) c = record {
    pairs = pairs;
    derivation = d;
    from = from;
    value = number;
    there = there;
    at = at;
    named = sym c.1;
    gives = subst (λ r. Gives diagram r from number at (Some derived)) (sym c.0) (subst (λ v. Gives diagram by from number at (Some v)) (sym c.2) gives);
    holds = c.3;
    apart = λ same. c.4 (same ∙ c.2);
  }
  contradicted pairs at value d by from number there gives (NotWhole block v) c = absurd c
  contradicted pairs at value d by from number there gives (Unsettled missing) c = absurd c
  contradicted pairs at value d by from number there gives Memory c = tt

  -- what the block of that number gives at a port beside the property
  pub gives_beside : (kind : BlockKind) (side : Side) (port : ℕ) (at : PropAt) (value : ℕ) (out : Option ℕ) → slice_get diagram.kinds at.block ≡ Some kind → port < port_count side kind
      → out ≡ carried kind at.prop at.side side value → Gives diagram (block_rule at.block) at value (beside at side port) out
  gives_beside kind side port at value out stands below e = record {
    kind = kind;
    stands = stands;
    near = refl;
    far = refl;
    prop = refl;
    port = subst (λ r. port < option_map_or (port_count side) r 0) (sym stands) below;
    carries = e;
  }

  module _ (old mid new : List Pair) (grown : Grows diagram old mid) (at : PropAt) (value : ℕ) (there : Contains old (at, value)) where
    pub ports_step : (kind : BlockKind) (side : Side) (port derived : ℕ) → slice_get diagram.kinds at.block ≡ Some kind → port < port_count side kind
        → Some derived ≡ carried kind at.prop at.side side value → PortsSpread kind side port mid at value → Learns mid new (beside at side port) derived
        → Grows diagram old new × PortsSpread kind side (port + 1) new at value
    ports_step kind side port derived stands below e so learns =
        let more = learns_grows mid new (beside at side port) derived learns grown.derivation (block_rule at.block) at value (kept old mid grown at value there)
        (gives_beside kind side port at value (Some derived) stands below e) in (
          grows_more old mid new grown more,
          record {
            whole = λ _ none. let z : ◌≡◌ {A = Option ℕ} (Some derived) None = e ∙ none in cc;
            given = λ k number lt some. ⊎_elim
                (λ same. subst (λ k. Contains new (beside at side k, number)) (sym same)
                (subst (λ n. Contains new (beside at side port, n)) (same_some (e ∙ some)) (learnt mid new (beside at side port) derived learns)))
                (λ other. kept mid new more (beside at side k) number (so.given k number (omega arith) some))
                (cases_eq k port);
          },
        )
