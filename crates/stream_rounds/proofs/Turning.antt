-- Lists of ends, one end after another.
use Rattle.std.proofs.Common.{◌≡◌, ℕ, ◌+◌, ◌<◌, ◌≤◌, ◌⊎◌, inl, inr, List, [], length, get_or, set, refl, sym, ap, subst, arith, ◌∙◌}
use Rattle.std.specs.Prelude.{MatchBool}
use Rattle.std.proofs.lemmas.Bool.{cases_eq}
use Rattle.std.proofs.lemmas.List.{get_or-set_same, get_or-set_other}
use Rattle.std.proofs.Math.ListN.{length-set}
use mathlib.Core.List.{IsPrefix}
use Rattle.chdr_packets.specs.declared.packet.Packet.{Packet}
use Rattle.net_present.specs.Present.{Present}
use Rattle.fabric_parts.specs.Ready.{most_offered}
use Rattle.stream_rounds.specs.Between.{AreCaughtUp}
use Rattle.stream_rounds.specs.Presents.{at}
use Rattle.stream_rounds.specs.Sides.{IntakeSide, OutletSide}
use Rattle.stream_rounds.specs.Turns.{Each, EachHands, EachLooks, EachPasses, HaveNone, Hands, Hears, Looks, Passes}

-- the first k ends went on so, and the others are as before
pub record UpTo {A : Type 0} (R : A → A → Type 0) (k : ℕ) (before after : List A) : Type 0 where
  pub count : length after ≡ length before
  pub done : (i : ℕ) (d : A) → i < k → i < length before → R (get_or before i d) (get_or after i d)
  pub rest : (i : ℕ) (d : A) → k ≤ i → get_or after i d ≡ get_or before i d

pub upto-first : {A : Type 0} (R : A → A → Type 0) (xs : List A) → UpTo R 0 xs xs
upto-first R xs = record {
  count = refl;
  done = λ i d lt there. absurd (omega (arith, lt));
  rest = λ i d le. refl;
}

pub upto-more : {A : Type 0} (R : A → A → Type 0) (k : ℕ) (xs ys : List A) (x y : A) → UpTo R k xs ys → k < length ys
    → ((d : A) → get_or ys k d ≡ x) → R x y → UpTo R (k + 1) xs (set ys k y)
upto-more {A = A} R k xs ys x y upto there at-k goes = record {
  count = length-set ys k y ∙ upto.count;
  done = λ i d lt within. by i d lt within (cases_eq i k);
  rest = λ i d le. get_or-set_other ys k i y d (λ met. absurd (omega (arith, le, met))) ∙ upto.rest i d (omega (arith, le));
}
  where
    by : (i : ℕ) (d : A) → i < k + 1 → i < length xs → (i ≡ k) ⊎ (i ≡ k → ⊥) → R (get_or xs i d) (get_or (set ys k y) i d)
    by i d lt within (inl met) =
        subst (λ j. R (get_or xs j d) (get_or (set ys k y) j d)) (sym met)
        (subst (λ z. R z (get_or (set ys k y) k d)) (sym (at-k d) ∙ upto.rest k d (omega arith))
        (subst (λ z. R x z) (sym (get_or-set_same ys k y d there)) goes))
    by i d lt within (inr not) =
        subst (λ z. R (get_or xs i d) z) (sym (get_or-set_other ys k i y d not)) (upto.done i d (omega (arith, lt, not)) within)

pub upto-all : {A : Type 0} (R : A → A → Type 0) (k : ℕ) (xs ys : List A) → UpTo R k xs ys → length xs ≤ k → Each R xs ys
upto-all R k xs ys upto all = record {
  count = upto.count;
  each = λ i d lt. upto.done i d (omega (arith, all, lt)) lt;
}

-- ---- what the fabric hears, from another present that tells as many packets sent

pub hears-from : (p q : Present) (x y : IntakeSide) → ((t : ℕ) → (at q t).sent ≡ (at p t).sent) → Hears q x y → Hears p x y
hears-from p q x y sent hears = record {
  stream = hears.stream;
  lane = hears.lane;
  hears = hears.hears;
  longer = hears.longer;
  all = by hears.all;
  tells = hears.tells;
}
  where
    by : (y.rx.got ≡ y.rx.known) ⊎ ((at q y.stream).sent + most_offered ≤ length y.rx.got)
        → (y.rx.got ≡ y.rx.known) ⊎ ((at p y.stream).sent + most_offered ≤ length y.rx.got)
    by (inl all) = inl all
    by (inr full) = let same = sent y.stream in inr (omega (arith, full, same))

-- ---- a look and then packets that are put

pub passes-both : (p : Present) (x y z : OutletSide) → Looks x y → Hands y z → (at p z.stream).waiting ≡ [] → (at p z.stream).taken ≡ z.tx.taken → Passes p x z
passes-both p x y z looks hands empty caught = record {
  stream = hands.stream ∙ looks.stream;
  lane = hands.lane ∙ looks.lane;
  rises = let a = looks.rises in let b = hands.taken in omega (arith, a, b);
  longer = subst (λ (ps : List Packet). IsPrefix ps z.tx.put) looks.put hands.longer;
  none = empty;
  caught = caught;
  tells = subst (λ (ps : List Packet). MatchBool z.moved (length ps < length z.tx.put) (z.tx.put ≡ ps)) looks.put hands.tells;
}

pub each-passes : (p : Present) (xs ys zs : List OutletSide) → EachLooks xs ys → EachHands ys zs → HaveNone p zs → AreCaughtUp p zs → EachPasses p xs zs
each-passes p xs ys zs looks hands empty caught = record {
  count = hands.count ∙ looks.count;
  each = λ i d lt.
      let many = looks.count in
      let more = hands.count in
      let ly : i < length ys = omega (arith, lt, many) in
      let lz : i < length zs = omega (arith, ly, more) in
      passes-both p (get_or xs i d) (get_or ys i d) (get_or zs i d) (looks.each i d lt) (hands.each i d ly) (empty i d lz) (caught i d lz);
}

-- ends that keep their streams and counts are caught up as before
pub still-caught : (p q : Present) (xs ys : List OutletSide) → EachHands xs ys → ((s : ℕ) → (at q s).taken ≡ (at p s).taken) → AreCaughtUp p xs → AreCaughtUp q ys
still-caught p q xs ys hands taken caught i d lt =
    let many = hands.count in
    let lx : i < length xs = omega (arith, lt, many) in
    let here = hands.each i d lx in
    taken (get_or ys i d).stream
    ∙ ap (λ s. (at p s).taken) here.stream
    ∙ caught i d lx
    ∙ sym here.taken
