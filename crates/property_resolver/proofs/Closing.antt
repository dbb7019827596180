-- The pairs up to a place are spread, and what that took.
use Rattle.std.proofs.Common.{◌≡◌, ◌∙◌, ℕ, zero, suc, ◌+◌, ◌<◌, ◌≤◌, ⊎_elim, refl, sym, ap, subst, List, [], ◌∷◌, ◌++◌, length, length-append, take, get_or, Some, None, Option, slice_get, arith}
use Rattle.std.proofs.lemmas.List.{take-append-le}
use Rattle.std.proofs.lemmas.Bool.{cases_eq, cases_lt}
use Rattle.std.proofs.lemmas.List.Sums.{sum_by_more, sum_by-take-le}
use Rattle.graph_core.specs.declared.place.PropAt.{PropAt}
use Rattle.graph_core.specs.Derivation.{Diagram, IsDerivation, IsSpread, IsClosed}
use Rattle.graph_core.specs.Pairs.{Pair}
use Rattle.graph_core.specs.State.{IsDiagram}
use Rattle.property_resolver.specs.Spreads.{Grows, HasAll}
use Rattle.property_resolver.specs.Work.{edge_work, work, most_work}
use Rattle.property_resolver.proofs.Bounded.{bounded, at_least, few_pairs}
use Rattle.property_resolver.proofs.Learned.{kept, same_item, got}
use Rattle.property_resolver.proofs.Started.{read_in, in_read}

pub record Closing (diagram : Diagram) (pairs : List Pair) (next low now : ℕ) : Type 0 where
  pub derivation : IsDerivation diagram pairs
  pub users : HasAll diagram.users pairs
  pub within : next ≤ length pairs
  pub spread : (k : ℕ) (at : PropAt) (value : ℕ) → k < next → slice_get pairs k ≡ Some (at, value) → IsSpread diagram pairs at value
  pub rises : low ≤ now
  pub cost : now ≤ low + work diagram.edges (take next pairs)

front_get : (xs ys : List Pair) (k : ℕ) → k < length xs → slice_get (xs ++ ys) k ≡ slice_get xs k
front_get [] ys k lt = absurd (omega arith)
front_get (x ∷ xs) ys zero lt = refl
front_get (x ∷ xs) ys (suc k) lt = front_get xs ys k (omega arith)

past_end : (xs : List Pair) (k : ℕ) → slice_get xs k ≡ None → k < length xs → ⊥
past_end [] k e lt = omega arith
past_end (x ∷ xs) zero e lt = let z : ◌≡◌ {A = Option Pair} (Some x) None = e in cc
past_end (x ∷ xs) (suc k) e lt = past_end xs k e (omega arith)

work_more : (diagram : Diagram) (pairs : List Pair) (next : ℕ) (at : PropAt) (value : ℕ) → slice_get pairs next ≡ Some (at, value)
    → work diagram.edges (take (next + 1) pairs) ≡ work diagram.edges (take next pairs) + (1 + edge_work diagram.edges at)
work_more diagram pairs next at value e =
    let lt = (read_in pairs next (at, value) e).0 in
    let same : get_or pairs next (at, value) ≡ (at, value) = same_item (sym (got pairs next (at, value) lt) ∙ e) in
    sum_by_more (λ pair. 1 + edge_work diagram.edges pair.0) pairs next (at, value) lt ∙ ap (λ p. work diagram.edges (take next pairs) + (1 + edge_work diagram.edges p.0)) same

module _ (diagram : Diagram) where
  pub closing_start : (pairs : List Pair) (low : ℕ) → IsDerivation diagram pairs → HasAll diagram.users pairs → Closing diagram pairs 0 low low
  closing_start pairs low d users = record { derivation = d; users = users; within = omega arith; spread = λ k at value lt. absurd (omega arith); rises = omega arith; cost = omega arith }

  module _ (pairs : List Pair) (next low now : ℕ) (so : Closing diagram pairs next low now) where
    pub closing_done : slice_get pairs next ≡ None → IsClosed diagram pairs
    closing_done past = record {
      derivation = so.derivation;
      users = so.users;
      spread = λ at value h. let r = in_read pairs (at, value) h in so.spread r.0 at value (before r.0 r.1) r.2;
    }
      where
        before : (k : ℕ) → k < length pairs → k < next
        before k lt = ⊎_elim (λ below. below) (λ above. absurd (past_end pairs next past (omega arith))) (cases_lt k next)

    module _ (ok : IsDiagram diagram) where
      pub closing_cost : now ≤ low + most_work diagram
      closing_cost =
          let b = bounded diagram pairs so.derivation ok in
          let t : work diagram.edges (take next pairs) ≤ work diagram.edges pairs = sum_by-take-le (λ pair. 1 + edge_work diagram.edges pair.0) pairs next in
          let c = so.cost in
          omega arith

      module _ (at : PropAt) (value : ℕ) (here : slice_get pairs next ≡ Some (at, value)) where
        pub closing_cost_more : (later : ℕ) → later ≤ now + (1 + edge_work diagram.edges at) → later ≤ low + most_work diagram
        closing_cost_more later step =
            let b = bounded diagram pairs so.derivation ok in
            let m = work_more diagram pairs next at value here in
            let t : work diagram.edges (take (next + 1) pairs) ≤ work diagram.edges pairs = sum_by-take-le (λ pair. 1 + edge_work diagram.edges pair.0) pairs (next + 1) in
            let c = so.cost in
            omega arith

        pub closing_next : next < most_work diagram
        closing_next =
            let b = bounded diagram pairs so.derivation ok in
            let l = at_least diagram.edges pairs in
            let r = (read_in pairs next (at, value) here).0 in
            omega arith

        pub closing_small : next < 384
        closing_small = let f = few_pairs diagram pairs so.derivation ok in let r = (read_in pairs next (at, value) here).0 in omega arith

        pub closing_more : (new : List Pair) (later : ℕ) → Grows diagram pairs new → IsSpread diagram new at value → now ≤ later → later ≤ now + (1 + edge_work diagram.edges at)
            → Closing diagram new (next + 1) low later
        closing_more new later more spread rises step =
            let lt = (read_in pairs next (at, value) here).0 in
            let whole : length new ≡ length (pairs ++ more.added) = ap length more.front in
            let long = length-append pairs more.added in
            let there : slice_get new next ≡ Some (at, value) = ap (λ l. slice_get l next) more.front ∙ front_get pairs more.added next lt ∙ here in
            let m = work_more diagram new next at value there in
            let same : work diagram.edges (take next new) ≡ work diagram.edges (take next pairs) = ap (λ l. work diagram.edges (take next l)) more.front ∙ ap (work diagram.edges) (take-append-le next pairs more.added (omega arith)) in
            let c = so.cost in
            let low_now = so.rises in
            record {
              derivation = more.derivation;
              users = λ q u h. kept diagram pairs new more q u (so.users q u h);
              within = omega arith;
              spread = λ k q u below e. ⊎_elim
                  (λ i. let both = same_item (sym there ∙ subst (λ j. slice_get new j ≡ Some (q, u)) i e) in subst (λ p. IsSpread diagram new p.0 p.1) both spread)
                  (λ other. let old : slice_get pairs k ≡ Some (q, u) = sym (front_get pairs more.added k (omega arith)) ∙ ap (λ l. slice_get l k) (sym more.front) ∙ e in
                  spread_kept (so.spread k q u (omega arith) old))
                  (cases_eq k next);
              rises = omega arith;
              cost = omega arith;
            }
          where
            spread_kept : {q : PropAt} {u : ℕ} → IsSpread diagram pairs q u → IsSpread diagram new q u
            spread_kept s = record { whole = s.whole; given = λ by to number g. kept diagram pairs new more to number (s.given by to number g) }
