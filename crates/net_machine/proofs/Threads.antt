-- The journal of one thread is legal, and leaves no event enabled.
use Rattle.std.proofs.Common.{◌≡◌, ℕ, ◌≤◌, ◌<◌, ◌⊎◌, inl, inr, true, false, [], ◌∷◌, length, refl, sym, ◌∙◌, ap, subst, arith}
use Rattle.std.specs.Prelude.{IsTrue, Option, Some, None, nat_lt, nat_le, ◌&&◌}
use Rattle.std.specs.List.{range_with_len}
use Rattle.std.proofs.lemmas.Bool.{cases_Bool, cases_lt, false≢true, le-leb, leb-true, lt-ltb, ltb-true}
use Rattle.std.proofs.lemmas.List.{get_or_past}
use Rattle.net_machine.specs.declared.event.Event.{Event}
use Rattle.net_machine.specs.declared.event.Event.TheVariants.{Enter, Hop, Seen, Feed, Report, Command, Lose, Reply, Ask}
use Rattle.net_machine.specs.Choice.{IsChosen, has_unseen, next_by, next_of, seed_of, sees_all, unseen_of}
use Rattle.net_machine.specs.Conditions.{can_see, enabled, ends_at_rx, has_untaken, may}
use Rattle.net_machine.specs.Effects.{after}
use Rattle.net_machine.specs.Front.{StreamFront, front, front_at, stream_front}
use Rattle.net_machine.specs.Laws.{ChosenIsWhole, HasFewInputs, OnlyTakes}
use Rattle.net_machine.specs.Moves.{Happens, IsLegal, IsStill, after_all}
use Rattle.net_machine.specs.State.{State, idle, stream_at}
use Rattle.net_machine.proofs.Choosing.{and-false, both, chosen-enabled, find-none, find-some, in-row, none-only, split}
use Rattle.net_machine.proofs.PlaceLemmas.{fronts}
use Rattle.net_machine.proofs.Shaping.{shape-stays}

seen-enabled : (w : State) (s n : ℕ) → enabled w (Seen s n) ≡ (ends_at_rx w.plan s && can_see (front_at (front w) s) n)
unfolding may
seen-enabled w s n = refl

-- what a consumer may take, it has
takes-unseen : (w : State) (s n : ℕ) → enabled w (Seen s n) ≡ true → has_unseen w s ≡ true
takes-unseen w s n may_it =
    let st = front_at (front w) s in
    let parts = split (ends_at_rx w.plan s) (can_see st n) (sym (seen-enabled w s n) ∙ may_it) in
    let range = split (nat_lt st.taken n) (nat_le n st.given) parts.1 in
    let low : st.taken < n = ltb-true st.taken n range.0 in
    let high : n ≤ st.given = leb-true n st.given range.1 in
    both (ends_at_rx w.plan s) (has_untaken (front w) s) parts.0 (lt-ltb st.taken st.given (omega (arith, low, high)))

-- and what it has, it may take
unseen-takes : (w : State) (s : ℕ) → has_unseen w s ≡ true → IsTrue (enabled w (sees_all w s))
unseen-takes w s unseen =
    let parts = split (ends_at_rx w.plan s) (has_untaken (front w) s) unseen in
    let st = stream_at w s in
    let shown : front_at (front w) s ≡ stream_front st = fronts.stream w s in
    let some : nat_lt st.taken (length st.given) ≡ true = ap (λ (x : StreamFront). nat_lt x.taken x.given) (sym shown) ∙ parts.1 in
    let can : can_see (stream_front st) (length st.given) ≡ true =
    both (nat_lt st.taken (length st.given)) (nat_le (length st.given) (length st.given)) some (le-leb (length st.given) (length st.given) (omega arith)) in
    seen-enabled w s (length st.given)
    ∙ both (ends_at_rx w.plan s) (can_see (front_at (front w) s) (length st.given)) parts.0
    (ap (λ (x : StreamFront). can_see x (length st.given)) shown ∙ can)

-- where none has anything, none may take
nothing-seen : (w : State) → unseen_of w ≡ None → (s n : ℕ) → enabled w (Seen s n) ≡ false
nothing-seen w none s n =
    elim (cases_Bool (enabled w (Seen s n))) [
      | inl t ↦ absurd (false≢true (sym (no-unseen (cases_lt s (length w.streams))) ∙ takes-unseen w s n t))
      | inr f ↦ f
    ]
  where
    no-unseen : (s < length w.streams) ⊎ (length w.streams ≤ s) → has_unseen w s ≡ false
    no-unseen (inl lt) = in-row (λ k. has_unseen w k ≡ false) 0 (length w.streams) (find-none (has_unseen w) (range_with_len 0 (length w.streams)) none) s (omega arith) (omega (arith, lt))
    no-unseen (inr past) =
        let shown : front_at (front w) s ≡ stream_front idle = fronts.stream w s ∙ ap stream_front (get_or_past w.streams s idle past) in
        ap (λ (x : StreamFront). ends_at_rx w.plan s && nat_lt x.taken x.given) shown ∙ and-false (ends_at_rx w.plan s)

still : (w : State) → OnlyTakes w → unseen_of w ≡ None → IsStill w
still w only none (Enter s) = only (Enter s) (λ t. t)
still w only none (Hop q) = only (Hop q) (λ t. t)
still w only none (Seen s n) = nothing-seen w none s n
still w only none (Feed b i) = only (Feed b i) (λ t. t)
still w only none (Report s) = only (Report s) (λ t. t)
still w only none (Command s op) = only (Command s op) (λ t. t)
still w only none (Lose q) = only (Lose q) (λ t. t)
still w only none (Reply x) = only (Reply x) (λ t. t)
still w only none (Ask x) = only (Ask x) (λ t. t)

no-event : (e : Event) → ◌≡◌ {A = Option Event} (Some e) None → ⊥
no-event e is = cc

ends-still : (seed : ℕ) (w : State) → HasFewInputs w.plan → (o : Option ℕ) → unseen_of w ≡ o → next_by seed w o ≡ None → IsStill w
ends-still seed w few None none ends = still w (none-only seed w few ends) none
ends-still seed w few (Some s) some ends = absurd (no-event (sees_all w s) ends)

steps-enabled : (seed : ℕ) (w : State) (e : Event) (o : Option ℕ) → unseen_of w ≡ o → next_by seed w o ≡ Some e → IsTrue (enabled w e)
steps-enabled seed w e None none next = chosen-enabled seed w e next
steps-enabled seed w e (Some s) some next =
    let same : sees_all w s ≡ e = some-event next in
    subst (λ x. IsTrue (enabled w x)) same (unseen-takes w s (find-some (has_unseen w) (range_with_len 0 (length w.streams)) s some))
  where
    some-event : {x y : Event} → ◌≡◌ {A = Option Event} (Some x) (Some y) → x ≡ y
    some-event is = cc

pub chosen-whole : ChosenIsWhole
unfolding IsChosen IsLegal after_all next_of
chosen-whole seed w [] few is = record { legal = tt; still = ends-still seed w few (unseen_of w) refl is }
chosen-whole seed w (e ∷ journal) few is =
    let plan = (shape-stays w (Happens e)).plan in
    let rest = chosen-whole (seed_of seed w) (after w e) journal (subst HasFewInputs (sym plan) few) is.1 in
    record { legal = (steps-enabled seed w e (unseen_of w) refl is.0, rest.legal); still = rest.still }
