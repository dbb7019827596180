-- Events, offers and hand-outs keep what holds between events.
use Rattle.std.proofs.Common.{◌≡◌, ℕ, ◌+◌, ◌<◌, ◌⊎◌, inl, inr, Bool, true, false, List, [], ◌∷◌, ◌++◌, length, get_or, set, refl, sym, ap, subst, arith, ◌∙◌, length-append}
use Rattle.std.specs.Prelude.{MatchBool, Option, nat_lt}
use Rattle.std.specs.List.{All}
use Rattle.std.proofs.lemmas.Bool.{cases_eq, le-ltb, lt-ltb}
use Rattle.std.proofs.lemmas.List.{append-nil, get_or-set_same, get_or-set_other}
use mathlib.Core.List.{IsPrefix}
use Rattle.std.proofs.Math.ListN.{length-set}
use Rattle.rf_base.proofs.Places.{one-set}
use Rattle.block_registers.specs.Registers.{Registers}
use Rattle.net_machine.specs.declared.event.Event.{Event}
use Rattle.net_machine.specs.declared.event.Event.TheVariants as event
use Rattle.net_machine.specs.Effects.{after}
use Rattle.net_machine.specs.Moves.{IsLegal, after_journal, moves_of}
use Rattle.net_machine.specs.State.{State}
use Rattle.net_present.specs.Present.{Present, StreamNow}
use Rattle.fabric_events.specs.Choosing.{doable_now}
use Rattle.fabric_net.specs.NetView.{NetSeen}
use Rattle.fabric_net.specs.Standing.{StandsFor}
use Rattle.stream_rounds.specs.Between.{AreApart, AreCaughtUp, IsDrained, IsFed, IsGoing}
use Rattle.stream_rounds.specs.Presents.{at, handing, offering, with_offered, with_waiting}
use Rattle.stream_rounds.specs.Sides.{IntakeSide, OutletSide}
use Rattle.stream_rounds.specs.Steps.{Goes, IsStepped, Stays, more, none}
use Rattle.stream_rounds.specs.Turns.{Looks}
use Rattle.stream_rounds.proofs.Draining.{drained-beside, drained-elsewhere, drained-handed, drained-looked, drained-offered, drained-plain, drained-seen, plain-taken, seen-taken, taken-stays, unseen-taken}
use Rattle.stream_rounds.proofs.Feeding.{fed-kept, fed-stepped}
use Rattle.stream_rounds.proofs.Journals.{after-more, legal-more, step-enabled}
use Rattle.stream_rounds.proofs.Lists.{begins_grown, begins_itself, begins_more}
use Rattle.stream_rounds.proofs.Plainly.{IsPlain}
use Rattle.stream_rounds.proofs.Presents.{as-many, at-keeps, at-other, at-same}

-- ---- lists of ends

stream-same : {A : Type 0} (stream : A → ℕ) (xs : List A) (i : ℕ) (x : A) → ((d : A) → stream x ≡ stream (get_or xs i d))
    → (j : ℕ) (d : A) → stream (get_or (set xs i x) j d) ≡ stream (get_or xs j d)
stream-same stream xs i x same j d = one-set (λ k new old. stream new ≡ stream old) xs xs d d x i (λ k. refl) (same d) j

apart-set : {A : Type 0} (stream : A → ℕ) (xs : List A) (i : ℕ) (x : A) → ((d : A) → stream x ≡ stream (get_or xs i d))
    → AreApart stream xs → AreApart stream (set xs i x)
apart-set stream xs i x same is = record {
  apart = λ j k d lj lk met.
      let many = length-set xs i x in
      is.apart j k d (omega (arith, lj, many)) (omega (arith, lk, many))
      (sym (stream-same stream xs i x same j d) ∙ met ∙ stream-same stream xs i x same k d);
}

all-others : {A : Type 0} (P : A → Type 0) (xs : List A) (i : ℕ) (x : A) → P x
    → ((j : ℕ) (d : A) → j < length xs → (j ≡ i → ⊥) → P (get_or xs j d)) → All P (set xs i x)
all-others P xs i x here others j d lt = by (cases_eq j i)
  where
    within : j < length xs
    within = let many = length-set xs i x in omega (arith, lt, many)

    by : (j ≡ i) ⊎ (j ≡ i → ⊥) → P (get_or (set xs i x) j d)
    by (inl is) =
        subst (λ k. P (get_or (set xs i x) k d)) (sym is)
        (subst P (sym (get_or-set_same xs i x d (omega (arith, within, is)))) here)
    by (inr not) = subst P (sym (get_or-set_other xs i j x d not)) (others j d within not)

-- an end of another place is of another stream
other-stream : {A : Type 0} (stream : A → ℕ) (xs : List A) (i j : ℕ) (x d : A) → AreApart stream xs → i < length xs → j < length xs
    → stream x ≡ stream (get_or xs i d) → (j ≡ i → ⊥) → stream (get_or xs j d) ≡ stream x → ⊥
other-stream stream xs i j x d is li lj same not met = not (is.apart j i d lj li (met ∙ same))

-- ---- packets are offered

fed-beside : (p : Present) (s t n : ℕ) (x : IntakeSide) → (s ≡ t → ⊥) → x.stream ≡ s → IsFed p x.stream x.rx → IsFed (offering t n p) x.stream x.rx
fed-beside p s t n x other is fed =
    let same = at-other p t x.stream (with_offered n) (λ met. other (sym is ∙ met)) in
    fed-kept p (offering t n p) x.stream x.rx fed refl (as-many p t (with_offered n))
    (ap (λ (st : StreamNow). st.ready) same) (ap (λ (st : StreamNow). st.offered) same) (ap (λ (st : StreamNow). st.sent) same)

pub going-heard : (opened : State) (old new : NetSeen) (banks : List (Option Registers)) (xs : List IntakeSide) (ys : List OutletSide)
    (i n : ℕ) (x y : IntakeSide) → IsGoing opened old banks xs ys → i < length xs → ((d : IntakeSide) → get_or xs i d ≡ x) → y.stream ≡ x.stream
    → new.present ≡ offering x.stream n old.present → IsFed new.present y.stream y.rx
    → ((w : State) → StandsFor old.present w → StandsFor new.present w) → new.journal ≡ old.journal
    → IsGoing opened new banks (set xs i y) ys
going-heard opened old new banks xs ys i n x y going there at-i stream present fed machine journal = record {
  legal = subst (λ (js : List Event). IsLegal opened (moves_of js)) (sym journal) going.legal;
  stands = subst (λ (v : State). StandsFor new.present v) (sym same) (machine (after_journal opened old.journal) going.stands);
  slots = ap (λ (v : State). v.banks) same ∙ going.slots;
  intakes_apart = apart-set (λ (z : IntakeSide). z.stream) xs i y (λ d. stream ∙ ap (λ (z : IntakeSide). z.stream) (sym (at-i d))) going.intakes_apart;
  outlets_apart = going.outlets_apart;
  fed = all-others (λ (z : IntakeSide). IsFed new.present z.stream z.rx) xs i y fed
      (λ j d lt not. subst (λ (p : Present). IsFed p (get_or xs j d).stream (get_or xs j d).rx) (sym present)
      (fed-beside old.present (get_or xs j d).stream x.stream n (get_or xs j d)
      (other-stream (λ (z : IntakeSide). z.stream) xs i j x d going.intakes_apart there lt (ap (λ (z : IntakeSide). z.stream) (sym (at-i d))) not) refl
      (going.fed j d lt)));
  drained = λ j d lt. subst (λ (v : State). IsDrained new.present v (get_or ys j d).stream (get_or ys j d).tx) (sym same)
      (subst (λ (p : Present). IsDrained p (after_journal opened old.journal) (get_or ys j d).stream (get_or ys j d).tx) (sym present)
      (drained-offered old.present (offering x.stream n old.present) (after_journal opened old.journal) (get_or ys j d).stream (get_or ys j d).tx
      refl (as-many old.present x.stream (with_offered n))
      (at-keeps (λ (st : StreamNow). st.waiting) old.present x.stream (with_offered n) (λ st. refl) (get_or ys j d).stream)
      (at-keeps (λ (st : StreamNow). st.taken) old.present x.stream (with_offered n) (λ st. refl) (get_or ys j d).stream)
      (going.drained j d lt)));
}
  where
    same : after_journal opened new.journal ≡ after_journal opened old.journal
    same = ap (after_journal opened) journal

-- ---- an event

-- an event happens, and the drain lanes are as far as the state that it leaves
going-with : (opened : State) (old new : NetSeen) (before banks : List (Option Registers)) (xs : List IntakeSide) (ys zs : List OutletSide) (e : Event)
    → IsGoing opened old before xs ys → IsStepped e old new before banks → AreApart (λ (x : OutletSide). x.stream) zs
    → All (λ (x : OutletSide). IsDrained new.present (after (after_journal opened old.journal) e) x.stream x.tx) zs
    → IsGoing opened new banks xs zs
going-with opened old new before banks xs ys zs e going step apart drained = record {
  legal = subst (λ (js : List Event). IsLegal opened (moves_of js)) (sym step.journal)
      (legal-more opened old.journal e going.legal (step-enabled w e old new before banks going.stands step));
  stands = subst (λ (v : State). StandsFor new.present v) (sym goes) stands;
  slots = ap (λ (v : State). v.banks) goes ∙ (step.machine w going.stands going.slots).1;
  intakes_apart = going.intakes_apart;
  outlets_apart = apart;
  fed = λ j d lt. fed-stepped w e (get_or xs j d).stream (get_or xs j d).rx old new before banks going.stands stands step (going.fed j d lt);
  drained = λ j d lt. subst (λ (v : State). IsDrained new.present v (get_or zs j d).stream (get_or zs j d).tx) (sym goes) (drained j d lt);
}
  where
    w : State
    w = after_journal opened old.journal

    goes : after_journal opened new.journal ≡ after (after_journal opened old.journal) e
    goes = ap (after_journal opened) step.journal ∙ after-more opened old.journal e

    stands : StandsFor new.present (after (after_journal opened old.journal) e)
    stands = (step.machine w going.stands going.slots).0

pub going-plain : (opened : State) (old new : NetSeen) (before banks : List (Option Registers)) (xs : List IntakeSide) (ys : List OutletSide) (e : Event)
    → IsGoing opened old before xs ys → IsPlain e → IsStepped e old new before banks → IsGoing opened new banks xs ys
going-plain opened old new before banks xs ys e going plain step =
    going-with opened old new before banks xs ys ys e going step going.outlets_apart
    (λ j d lt. drained-plain (after_journal opened old.journal) e (get_or ys j d).stream (get_or ys j d).tx old new before banks going.stands going.slots step plain
    (going.drained j d lt))

pub caught-plain : (opened : State) (old new : NetSeen) (before banks : List (Option Registers)) (xs : List IntakeSide) (ys : List OutletSide) (e : Event)
    → IsGoing opened old before xs ys → IsPlain e → IsStepped e old new before banks → AreCaughtUp old.present ys → AreCaughtUp new.present ys
caught-plain opened old new before banks xs ys e going plain step caught j d lt =
    plain-taken (after_journal opened old.journal) e (get_or ys j d).stream old new before banks going.stands going.slots step plain (going.drained j d lt).rx
    ∙ caught j d lt

-- nothing happens
pub going-stays : (opened : State) (old new : NetSeen) (before banks : List (Option Registers)) (xs : List IntakeSide) (ys : List OutletSide)
    → IsGoing opened old before xs ys → Stays old new before banks → IsGoing opened new banks xs ys
going-stays opened old new before banks xs ys going stays = record {
  legal = subst (λ (js : List Event). IsLegal opened (moves_of js)) (sym stays.journal) going.legal;
  stands = subst (λ (v : State). StandsFor new.present v) (sym same) (subst (λ (p : Present). StandsFor p (after_journal opened old.journal)) (sym stays.present) going.stands);
  slots = ap (λ (v : State). v.banks) same ∙ going.slots ∙ sym stays.slots;
  intakes_apart = going.intakes_apart;
  outlets_apart = going.outlets_apart;
  fed = subst (λ (p : Present). All (λ (x : IntakeSide). IsFed p x.stream x.rx) xs) (sym stays.present) going.fed;
  drained = subst (λ (v : State). All (λ (x : OutletSide). IsDrained new.present v x.stream x.tx) ys) (sym same)
      (subst (λ (p : Present). All (λ (x : OutletSide). IsDrained p (after_journal opened old.journal) x.stream x.tx) ys) (sym stays.present) going.drained);
}
  where
    same : after_journal opened new.journal ≡ after_journal opened old.journal
    same = ap (after_journal opened) stays.journal

-- events happen, none of them a taking
pub going-goes : (opened : State) (old : NetSeen) (before : List (Option Registers)) (new : NetSeen) (banks : List (Option Registers)) (xs : List IntakeSide) (ys : List OutletSide)
    → IsGoing opened old before xs ys → Goes old before new banks → IsGoing opened new banks xs ys
going-goes opened old before new banks xs ys going (none stays) = going-stays opened old new before banks xs ys going stays
going-goes opened old before new banks xs ys going (more {old = mid} {mid = slots} e goes plain step) =
    going-plain opened mid new slots banks xs ys e (going-goes opened old before mid slots xs ys going goes) plain step

pub caught-goes : (opened : State) (old : NetSeen) (before : List (Option Registers)) (new : NetSeen) (banks : List (Option Registers)) (xs : List IntakeSide) (ys : List OutletSide)
    → IsGoing opened old before xs ys → AreCaughtUp old.present ys → Goes old before new banks → AreCaughtUp new.present ys
caught-goes opened old before new banks xs ys going caught (none stays) =
    subst (λ (p : Present). AreCaughtUp p ys) (sym stays.present) caught
caught-goes opened old before new banks xs ys going caught (more {old = mid} {mid = slots} e goes plain step) =
    caught-plain opened mid new slots banks xs ys e (going-goes opened old before mid slots xs ys going goes) plain step
    (caught-goes opened old before mid slots xs ys going caught goes)

-- ---- an end of a drain lane looks

drained-here : (p : Present) (w : State) (xs : List OutletSide) (i : ℕ) (x : OutletSide) → i < length xs → ((d : OutletSide) → get_or xs i d ≡ x)
    → All (λ (z : OutletSide). IsDrained p w z.stream z.tx) xs → IsDrained p w x.stream x.tx
drained-here p w xs i x there at-i all = subst (λ (z : OutletSide). IsDrained p w z.stream z.tx) (at-i x) (all i x there)

pub going-looked : (opened : State) (old new : NetSeen) (before banks : List (Option Registers)) (xs : List IntakeSide) (ys : List OutletSide)
    (i : ℕ) (x y : OutletSide) → IsGoing opened old before xs ys → i < length ys → ((d : OutletSide) → get_or ys i d ≡ x) → Looks x y
    → (b : Bool) → doable_now old.present (event.Seen x.stream y.tx.taken) ≡ b
    → MatchBool b (IsStepped (event.Seen x.stream y.tx.taken) old new before banks) (Stays old new before banks)
    → IsGoing opened new banks xs (set ys i y)
going-looked opened old new before banks xs ys i x y going there at-i looked true can step =
    going-with opened old new before banks xs ys (set ys i y) e going step
    (apart-set (λ (z : OutletSide). z.stream) ys i y (λ d. looked.stream ∙ ap (λ (z : OutletSide). z.stream) (sym (at-i d))) going.outlets_apart)
    (all-others (λ (z : OutletSide). IsDrained new.present (after w e) z.stream z.tx) ys i y
    (subst (λ s. IsDrained new.present (after w e) s y.tx) (sym looked.stream)
    (drained-seen w x.stream x.tx y.tx old new before banks going.stands going.slots step looked.lane looked.put looked.sound
    (drained-here old.present w ys i x there at-i going.drained)))
    (λ j d lt not. drained-elsewhere w x.stream y.tx.taken (get_or ys j d).stream (get_or ys j d).tx old new before banks going.stands going.slots step
    (λ met. other-stream (λ (z : OutletSide). z.stream) ys i j x d going.outlets_apart there lt (ap (λ (z : OutletSide). z.stream) (sym (at-i d))) not (sym met))
    (going.drained j d lt)))
  where
    w : State
    w = after_journal opened old.journal

    e : Event
    e = event.Seen x.stream y.tx.taken
going-looked opened old new before banks xs ys i x y going there at-i looked false can stays =
    going-stays opened old new before banks xs (set ys i y) (record {
      legal = going.legal;
      stands = going.stands;
      slots = going.slots;
      intakes_apart = going.intakes_apart;
      outlets_apart = apart-set (λ (z : OutletSide). z.stream) ys i y (λ d. looked.stream ∙ ap (λ (z : OutletSide). z.stream) (sym (at-i d))) going.outlets_apart;
      fed = going.fed;
      drained = all-others (λ (z : OutletSide). IsDrained old.present (after_journal opened old.journal) z.stream z.tx) ys i y
          (subst (λ s. IsDrained old.present (after_journal opened old.journal) s y.tx) (sym looked.stream)
          (drained-looked old.present (after_journal opened old.journal) x.stream x.tx y.tx
          (drained-here old.present (after_journal opened old.journal) ys i x there at-i going.drained) looked.lane looked.put looked.rises looked.sound))
          (λ j d lt not. going.drained j d lt);
    }) stays

-- after it the machine counts as many packets of this stream taken as the end knows to be
pub looked-caught : (opened : State) (old new : NetSeen) (before banks : List (Option Registers)) (xs : List IntakeSide) (ys : List OutletSide)
    (i : ℕ) (x y : OutletSide) → IsGoing opened old before xs ys → i < length ys → ((d : OutletSide) → get_or ys i d ≡ x) → Looks x y
    → (b : Bool) → doable_now old.present (event.Seen x.stream y.tx.taken) ≡ b
    → MatchBool b (IsStepped (event.Seen x.stream y.tx.taken) old new before banks) (Stays old new before banks)
    → (at new.present y.stream).taken ≡ y.tx.taken
looked-caught opened old new before banks xs ys i x y going there at-i looked true can step =
    ap (λ s. (at new.present s).taken) looked.stream
    ∙ seen-taken (after_journal opened old.journal) x.stream y.tx.taken old new before banks going.stands going.slots step
looked-caught opened old new before banks xs ys i x y going there at-i looked false can stays =
    ap (λ s. (at new.present s).taken) looked.stream
    ∙ ap (λ (p : Present). (at p x.stream).taken) stays.present
    ∙ unseen-taken old.present (after_journal opened old.journal) x.stream x.tx y.tx going.stands
    (drained-here old.present (after_journal opened old.journal) ys i x there at-i going.drained) looked.put looked.rises looked.sound can

-- and of every other stream as many as before
pub looked-beside : (opened : State) (old new : NetSeen) (before banks : List (Option Registers)) (xs : List IntakeSide) (ys : List OutletSide)
    (i j : ℕ) (x y d : OutletSide) → IsGoing opened old before xs ys → i < length ys → j < length ys → ((d : OutletSide) → get_or ys i d ≡ x) → (j ≡ i → ⊥)
    → (b : Bool)
    → MatchBool b (IsStepped (event.Seen x.stream y.tx.taken) old new before banks) (Stays old new before banks)
    → (at new.present (get_or ys j d).stream).taken ≡ (at old.present (get_or ys j d).stream).taken
looked-beside opened old new before banks xs ys i j x y d going there lt at-i not true step =
    taken-stays (after_journal opened old.journal) (event.Seen x.stream y.tx.taken) (get_or ys j d).stream old new before banks going.stands going.slots step
    (λ met. other-stream (λ (z : OutletSide). z.stream) ys i j x d going.outlets_apart there lt (ap (λ (z : OutletSide). z.stream) (sym (at-i d))) not (sym met))
    (going.drained j d lt).rx
looked-beside opened old new before banks xs ys i j x y d going there lt at-i not false stays =
    ap (λ (p : Present). (at p (get_or ys j d).stream).taken) stays.present

-- ---- an end of a drain lane gets what waits

pub going-handed : (opened : State) (old new : NetSeen) (banks : List (Option Registers)) (xs : List IntakeSide) (ys : List OutletSide)
    (i : ℕ) (x y : OutletSide) → IsGoing opened old banks xs ys → i < length ys → ((d : OutletSide) → get_or ys i d ≡ x)
    → y.stream ≡ x.stream → y.tx.lane ≡ x.tx.lane → y.tx.taken ≡ x.tx.taken → y.tx.put ≡ x.tx.put ++ (at old.present x.stream).waiting
    → new.present ≡ handing x.stream [] old.present
    → ((w : State) → StandsFor old.present w → StandsFor new.present w) → new.journal ≡ old.journal
    → IsGoing opened new banks xs (set ys i y)
going-handed opened old new banks xs ys i x y going there at-i stream lane taken put present machine journal = record {
  legal = subst (λ (js : List Event). IsLegal opened (moves_of js)) (sym journal) going.legal;
  stands = subst (λ (v : State). StandsFor new.present v) (sym same) (machine w going.stands);
  slots = ap (λ (v : State). v.banks) same ∙ going.slots;
  intakes_apart = going.intakes_apart;
  outlets_apart = apart-set (λ (z : OutletSide). z.stream) ys i y (λ d. stream ∙ ap (λ (z : OutletSide). z.stream) (sym (at-i d))) going.outlets_apart;
  fed = λ j d lt. subst (λ (p : Present). IsFed p (get_or xs j d).stream (get_or xs j d).rx) (sym present)
      (fed-kept old.present (handing x.stream [] old.present) (get_or xs j d).stream (get_or xs j d).rx (going.fed j d lt) refl
      (as-many old.present x.stream (with_waiting []))
      (at-keeps (λ (st : StreamNow). st.ready) old.present x.stream (with_waiting []) (λ st. refl) (get_or xs j d).stream)
      (at-keeps (λ (st : StreamNow). st.offered) old.present x.stream (with_waiting []) (λ st. refl) (get_or xs j d).stream)
      (at-keeps (λ (st : StreamNow). st.sent) old.present x.stream (with_waiting []) (λ st. refl) (get_or xs j d).stream));
  drained = subst (λ (v : State). All (λ (z : OutletSide). IsDrained new.present v z.stream z.tx) (set ys i y)) (sym same)
      (subst (λ (p : Present). All (λ (z : OutletSide). IsDrained p w z.stream z.tx) (set ys i y)) (sym present)
      (all-others (λ (z : OutletSide). IsDrained (handing x.stream [] old.present) w z.stream z.tx) ys i y
      (subst (λ s. IsDrained (handing x.stream [] old.present) w s y.tx) (sym stream)
      (drained-handed old.present w x.stream x.tx y.tx (drained-here old.present w ys i x there at-i going.drained) lane taken put))
      (λ j d lt not. drained-beside old.present w (get_or ys j d).stream x.stream (get_or ys j d).tx
      (other-stream (λ (z : OutletSide). z.stream) ys i j x d going.outlets_apart there lt (ap (λ (z : OutletSide). z.stream) (sym (at-i d))) not)
      (going.drained j d lt))));
}
  where
    w : State
    w = after_journal opened old.journal

    same : after_journal opened new.journal ≡ after_journal opened old.journal
    same = ap (after_journal opened) journal

-- so the first i + 1 of the ends are caught up
pub caught-more : (opened : State) (old new : NetSeen) (before banks : List (Option Registers)) (xs : List IntakeSide) (ys : List OutletSide)
    (i : ℕ) (x y : OutletSide) → IsGoing opened old before xs ys → i < length ys → ((d : OutletSide) → get_or ys i d ≡ x) → Looks x y
    → (b : Bool) → doable_now old.present (event.Seen x.stream y.tx.taken) ≡ b
    → MatchBool b (IsStepped (event.Seen x.stream y.tx.taken) old new before banks) (Stays old new before banks)
    → ((j : ℕ) (d : OutletSide) → j < i → j < length ys → (at old.present (get_or ys j d).stream).taken ≡ (get_or ys j d).tx.taken)
    → (j : ℕ) (d : OutletSide) → j < i + 1 → j < length (set ys i y)
    → (at new.present (get_or (set ys i y) j d).stream).taken ≡ (get_or (set ys i y) j d).tx.taken
caught-more opened old new before banks xs ys i x y going there at-i looked b is sees caught j d lt within = by (cases_eq j i)
  where
    IsCaught : OutletSide → Type 0
    IsCaught z = (at new.present z.stream).taken ≡ z.tx.taken

    by : (j ≡ i) ⊎ (j ≡ i → ⊥) → IsCaught (get_or (set ys i y) j d)
    by (inl met) =
        subst (λ k. IsCaught (get_or (set ys i y) k d)) (sym met)
        (subst IsCaught (sym (get_or-set_same ys i y d there)) (looked-caught opened old new before banks xs ys i x y going there at-i looked b is sees))
    by (inr not) =
        let many = length-set ys i y in
        let inside : j < length ys = omega (arith, within, many) in
        subst IsCaught (sym (get_or-set_other ys i j y d not))
        (looked-beside opened old new before banks xs ys i j x y d going there inside at-i not b sees ∙ caught j d (omega (arith, lt, not)) inside)

-- the end at a place is as far as the state
pub drained-at : (p : Present) (w : State) (xs : List OutletSide) (i : ℕ) (x : OutletSide) → i < length xs → x ≡ get_or xs i x
    → All (λ (z : OutletSide). IsDrained p w z.stream z.tx) xs → IsDrained p w x.stream x.tx
drained-at p w xs i x there is all = subst (λ (z : OutletSide). IsDrained p w z.stream z.tx) (sym is) (all i x there)

-- nothing waits for the first i + 1 of the ends
pub none-more : (opened : State) (old new : NetSeen) (banks : List (Option Registers)) (xs : List IntakeSide) (ys : List OutletSide)
    (i : ℕ) (x y : OutletSide) → IsGoing opened old banks xs ys → i < length ys → ((d : OutletSide) → get_or ys i d ≡ x)
    → y.stream ≡ x.stream → new.present ≡ handing x.stream [] old.present
    → ((j : ℕ) (d : OutletSide) → j < i → j < length ys → (at old.present (get_or ys j d).stream).waiting ≡ [])
    → (j : ℕ) (d : OutletSide) → j < i + 1 → j < length (set ys i y) → (at new.present (get_or (set ys i y) j d).stream).waiting ≡ []
none-more opened old new banks xs ys i x y going there at-i stream present empty j d lt within = by (cases_eq j i)
  where
    HasNone : OutletSide → Type 0
    HasNone z = (at new.present z.stream).waiting ≡ []

    by : (j ≡ i) ⊎ (j ≡ i → ⊥) → HasNone (get_or (set ys i y) j d)
    by (inl met) =
        subst (λ k. HasNone (get_or (set ys i y) k d)) (sym met)
        (subst HasNone (sym (get_or-set_same ys i y d there))
        (ap (λ s. (at new.present s).waiting) stream
        ∙ ap (λ (p : Present). (at p x.stream).waiting) present
        ∙ ap (λ (st : StreamNow). st.waiting) (at-same old.present x.stream (with_waiting []) (drained-here old.present (after_journal opened old.journal) ys i x there at-i going.drained).there)))
    by (inr not) =
        let many = length-set ys i y in
        let inside : j < length ys = omega (arith, within, many) in
        subst HasNone (sym (get_or-set_other ys i j y d not))
        (ap (λ (p : Present). (at p (get_or ys j d).stream).waiting) present
        ∙ ap (λ (st : StreamNow). st.waiting) (at-other old.present x.stream (get_or ys j d).stream (with_waiting [])
        (other-stream (λ (z : OutletSide). z.stream) ys i j x d going.outlets_apart there inside (ap (λ (z : OutletSide). z.stream) (sym (at-i d))) not))
        ∙ empty j d (omega (arith, lt, not)) inside)

-- ---- journals only grow

pub sees-longer : (s n : ℕ) (old new : NetSeen) (before banks : List (Option Registers)) (b : Bool)
    → MatchBool b (IsStepped (event.Seen s n) old new before banks) (Stays old new before banks) → IsPrefix old.journal new.journal
sees-longer s n old new before banks true step =
    subst (λ (js : List Event). IsPrefix old.journal js) (sym step.journal) (begins_grown old.journal (event.Seen s n ∷ []))
sees-longer s n old new before banks false stays =
    subst (λ (js : List Event). IsPrefix old.journal js) (sym stays.journal) (begins_itself old.journal)

pub goes-longer : (old : NetSeen) (before : List (Option Registers)) (new : NetSeen) (banks : List (Option Registers)) → Goes old before new banks → IsPrefix old.journal new.journal
goes-longer old before new banks (none stays) =
    subst (λ (js : List Event). IsPrefix old.journal js) (sym stays.journal) (begins_itself old.journal)
goes-longer old before new banks (more {old = mid} {mid = slots} e goes plain step) =
    subst (λ (js : List Event). IsPrefix old.journal js) (sym step.journal) (begins_more old.journal mid.journal e (goes-longer old before mid slots goes))

-- a journal that didn't get longer is the same
pub tells-longer : (old new : List Event) (n : ℕ) → n ≡ length old → IsPrefix old new → MatchBool (nat_lt n (length new)) (length old < length new) (new ≡ old)
tells-longer old new n is begins = by begins.0 begins.1
  where
    by : (rest : List Event) → old ++ rest ≡ new → MatchBool (nat_lt n (length new)) (length old < length new) (new ≡ old)
    by [] same =
        let all : old ≡ new = sym (append-nil old) ∙ same in
        let len = ap (λ (es : List Event). length es) all in
        subst (λ (b : Bool). MatchBool b (length old < length new) (new ≡ old)) (sym (le-ltb n (length new) (omega (arith, is, len)))) (sym all)
    by (e ∷ rest) same =
        let sum = length-append old (e ∷ rest) in
        let len = ap (λ (es : List Event). length es) same in
        let lt : length old < length new = omega (arith, sum, len) in
        subst (λ (b : Bool). MatchBool b (length old < length new) (new ≡ old)) (sym (lt-ltb n (length new) (omega (arith, is, lt)))) lt
