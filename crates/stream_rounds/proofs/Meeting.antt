-- The ends of lanes meet, one pair after another, and the fabric's ends are as far as before.
use Rattle.std.proofs.Common.{◌≡◌, ℕ, ◌+◌, ◌<◌, ◌≤◌, ◌⊎◌, inl, inr, List, length, get_or, set, refl, sym, ap, subst, arith, ◌∙◌, length-append}
use Rattle.std.specs.Prelude.{Option}
use Rattle.std.proofs.lemmas.Bool.{cases_eq}
use Rattle.std.proofs.lemmas.List.{get_or-set_same, get_or-set_other}
use Rattle.std.proofs.Math.ListN.{length-set}
use mathlib.Core.List.{IsPrefix}
use Rattle.block_registers.specs.Registers.{Registers}
use Rattle.chdr_packets.specs.declared.packet.Packet.{Packet}
use Rattle.credit_lane.specs.Sides.{LaneId}
use Rattle.block_library.specs.Producer.{produced}
use Rattle.net_machine.specs.Moves.{after_journal}
use Rattle.net_machine.specs.State.{State}
use Rattle.fabric_net.specs.NetView.{NetSeen}
use Rattle.stream_lanes.specs.Sides.{DrainSide, SourceSide}
use Rattle.stream_rounds.specs.Between.{AreApart, IsDrained, IsFed, IsGoing, makes_of}
use Rattle.stream_rounds.specs.Meeting.{AllDrainsHaveMet, AllHaveMet, EachPair, HaveMet, HaveMetDrain}
use Rattle.stream_rounds.specs.Sides.{IntakeSide, OutletSide}
use Rattle.stream_rounds.proofs.Draining.{drained-looked}

-- the first k pairs met, and the others are as before
pub record PairsUpTo {A B : Type 0} (R : A → A → B → B → Type 0) (k : ℕ) (xs us : List A) (ys vs : List B) : Type 0 where
  pub count : length us ≡ length xs
  pub other : length vs ≡ length ys
  pub done : (i : ℕ) (x : A) (y : B) → i < k → i < length xs → R (get_or xs i x) (get_or us i x) (get_or ys i y) (get_or vs i y)
  pub first : (i : ℕ) (x : A) → k ≤ i → get_or us i x ≡ get_or xs i x
  pub second : (i : ℕ) (y : B) → k ≤ i → get_or vs i y ≡ get_or ys i y

pub pairs-first : {A B : Type 0} (R : A → A → B → B → Type 0) (xs : List A) (ys : List B) → PairsUpTo R 0 xs xs ys ys
pairs-first R xs ys = record {
  count = refl;
  other = refl;
  done = λ i x y lt there. absurd (omega (arith, lt));
  first = λ i x le. refl;
  second = λ i y le. refl;
}

pub pairs-more : {A B : Type 0} (R : A → A → B → B → Type 0) (k : ℕ) (xs us : List A) (ys vs : List B) (x u : A) (y v : B)
    → PairsUpTo R k xs us ys vs → k < length us → k < length vs → ((d : A) → get_or us k d ≡ x) → ((d : B) → get_or vs k d ≡ y)
    → R x u y v → PairsUpTo R (k + 1) xs (set us k u) ys (set vs k v)
pairs-more {A = A} {B = B} R k xs us ys vs x u y v upto in-us in-vs at-x at-y goes = record {
  count = length-set us k u ∙ upto.count;
  other = length-set vs k v ∙ upto.other;
  done = λ i c d lt within. by i c d lt within (cases_eq i k);
  first = λ i c le. get_or-set_other us k i u c (λ met. absurd (omega (arith, le, met))) ∙ upto.first i c (omega (arith, le));
  second = λ i d le. get_or-set_other vs k i v d (λ met. absurd (omega (arith, le, met))) ∙ upto.second i d (omega (arith, le));
}
  where
    by : (i : ℕ) (c : A) (d : B) → i < k + 1 → i < length xs → (i ≡ k) ⊎ (i ≡ k → ⊥)
        → R (get_or xs i c) (get_or (set us k u) i c) (get_or ys i d) (get_or (set vs k v) i d)
    by i c d lt within (inl met) =
        subst (λ j. R (get_or xs j c) (get_or (set us k u) j c) (get_or ys j d) (get_or (set vs k v) j d)) (sym met)
        (subst (λ z. R z (get_or (set us k u) k c) (get_or ys k d) (get_or (set vs k v) k d)) (sym (at-x c) ∙ upto.first k c (omega arith))
        (subst (λ z. R x (get_or (set us k u) k c) z (get_or (set vs k v) k d)) (sym (at-y d) ∙ upto.second k d (omega arith))
        (subst (λ z. R x z y (get_or (set vs k v) k d)) (sym (get_or-set_same us k u c in-us))
        (subst (λ z. R x u y z) (sym (get_or-set_same vs k v d in-vs)) goes))))
    by i c d lt within (inr not) =
        subst (λ z. R (get_or xs i c) z (get_or ys i d) (get_or (set vs k v) i d)) (sym (get_or-set_other us k i u c not))
        (subst (λ z. R (get_or xs i c) (get_or us i c) (get_or ys i d) z) (sym (get_or-set_other vs k i v d not))
        (upto.done i c d (omega (arith, lt, not)) within))

pub pairs-all : {A B : Type 0} (R : A → A → B → B → Type 0) (k : ℕ) (xs us : List A) (ys vs : List B) → PairsUpTo R k xs us ys vs
    → length xs ≤ k → EachPair R xs us ys vs
pairs-all R k xs us ys vs upto all = record {
  count = upto.count;
  other = upto.other;
  each = λ i x y lt. upto.done i x y (omega (arith, all, lt)) lt;
}

-- ---- the fabric's ends

fed-met : (net : NetSeen) (x y : SourceSide) (u v : IntakeSide) → HaveMet x y u v → IsFed net.present u.stream u.rx → IsFed net.present v.stream v.rx
fed-met net x y u v met fed = subst (λ s. IsFed net.present s v.rx) (sym met.intake_stream) (record {
  there = fed.there;
  tx = fed.tx;
  plan = ap (λ (l : LaneId). l.plan) met.intake_lane ∙ fed.plan;
  front = subst (λ (ps : List Packet). IsPrefix ps (produced (makes_of net.present.plan u.stream))) (sym met.got) fed.front;
  many = ap (λ (ps : List Packet). length ps) met.got ∙ fed.many;
  ready = fed.ready;
})

drained-met : (net : NetSeen) (w : State) (x y : OutletSide) (u v : DrainSide) → HaveMetDrain x y u v → IsDrained net.present w x.stream x.tx
    → IsDrained net.present w y.stream y.tx
drained-met net w x y u v met drained =
    subst (λ s. IsDrained net.present w s y.tx) (sym met.outlet_stream)
    (drained-looked net.present w x.stream x.tx y.tx drained met.outlet_lane met.put met.rises
    (let taken = met.taken in
    let order = ap (λ (ps : List Packet). length ps) met.order.1 in
    let sum = length-append u.rx.got met.order.0 in
    let put = ap (λ (ps : List Packet). length ps) met.put in
    omega (arith, taken, order, sum, put)))

apart-kept : {A : Type 0} (stream : A → ℕ) (xs ys : List A) → length ys ≡ length xs → ((i : ℕ) (d : A) → i < length xs → stream (get_or ys i d) ≡ stream (get_or xs i d))
    → AreApart stream xs → AreApart stream ys
apart-kept stream xs ys many same is = record {
  apart = λ i j d li lj met.
      is.apart i j d (omega (arith, li, many)) (omega (arith, lj, many))
      (sym (same i d (omega (arith, li, many))) ∙ met ∙ same j d (omega (arith, lj, many)));
}

pub going-met : (opened : State) (net : NetSeen) (banks : List (Option Registers)) (sources more : List SourceSide) (xs us : List IntakeSide)
    (ys vs : List OutletSide) (drains last : List DrainSide) → (SourceSide) → (DrainSide) → length xs ≡ length sources
    → AllHaveMet sources more xs us → AllDrainsHaveMet ys vs drains last → IsGoing opened net banks xs ys → IsGoing opened net banks us vs
going-met opened net banks sources more xs us ys vs drains last c e many met drained going = record {
  legal = going.legal;
  stands = going.stands;
  slots = going.slots;
  intakes_apart = apart-kept (λ (x : IntakeSide). x.stream) xs us met.other
      (λ i d lt. (met.each i c d (omega (arith, lt, many))).intake_stream) going.intakes_apart;
  outlets_apart = apart-kept (λ (x : OutletSide). x.stream) ys vs drained.count
      (λ i d lt. (drained.each i d e lt).outlet_stream) going.outlets_apart;
  fed = λ i d lt.
      let same = met.other in
      let within : i < length xs = omega (arith, lt, same) in
      fed-met net (get_or sources i c) (get_or more i c) (get_or xs i d) (get_or us i d) (met.each i c d (omega (arith, within, many))) (going.fed i d within);
  drained = λ i d lt.
      let same = drained.count in
      let within : i < length ys = omega (arith, lt, same) in
      drained-met net (after_journal opened net.journal) (get_or ys i d) (get_or vs i d) (get_or drains i e) (get_or last i e) (drained.each i d e within) (going.drained i d within);
}
