-- The fabric takes from a source lane, packet by packet, and offers each to its net.
use Rattle.std.proofs.Common.{◌≡◌, ℕ, ◌+◌, ◌<◌, ◌≤◌, ◌⊎◌, inl, inr, Bool, true, false, List, [], ◌∷◌, ◌++◌, length, drop, refl, sym, ap, subst, arith, ◌∙◌, length-append}
use Rattle.std.specs.Prelude.{MatchBool, Some, slice_get}
use Rattle.std.proofs.lemmas.List.{append-nil}
use mathlib.Core.List.{IsPrefix}
use Rattle.block_library.specs.Producer.{produced}
use Rattle.chdr_packets.specs.declared.packet.Packet.{Packet}
use Rattle.credit_lane.specs.Planned.{IsNext, IsPlanned}
use Rattle.credit_lane.specs.Sides.{LaneId, TakeSide}
use Rattle.credit_lane.specs.declared.plan.LanePlan.{LanePlan}
use Rattle.credit_lane.specs.declared.plan.LanePlan.TheVariants.{Producer}
use Rattle.net_present.specs.Onward.{on_now}
use Rattle.net_present.specs.Present.{Present, StreamNow}
use Rattle.fabric_parts.specs.Ready.{most_offered}
use Rattle.fabric_parts.specs.Streams.{offers_now}
use Rattle.stream_rounds.specs.Between.{IsFed, makes_of}
use Rattle.stream_rounds.specs.Presents.{at, offering, with_offered}
use Rattle.stream_rounds.proofs.Lists.{begins_itself, begins_more, slice_get-drop}
use Rattle.stream_rounds.proofs.Presents.{as-many, at-same, on-nothing, on-twice}

-- So far packets of stream s were taken and offered, from present p and end rx on.
pub record IsHearing (s : ℕ) (p q : Present) (old rx : TakeSide) (moved : Bool) : Type 0 where
  pub fed : IsFed q s rx
  pub lane : rx.lane ≡ old.lane
  pub known : rx.known ≡ old.known
  pub order : IsPrefix rx.got rx.known
  pub longer : IsPrefix old.got rx.got
  pub tells : MatchBool moved (length old.got < length rx.got) (rx.got ≡ old.got)
  pub present : q ≡ offering s (at q s).offered p

pub hearing-first : (s : ℕ) (p : Present) (rx : TakeSide) → IsFed p s rx → IsPrefix rx.got rx.known → IsHearing s p p rx rx false
hearing-first s p rx fed order = record {
  fed = fed;
  lane = refl;
  known = refl;
  order = order;
  longer = begins_itself rx.got;
  tells = refl;
  present = sym (on-nothing p s (with_offered (at p s).offered) refl);
}

-- the packet that comes next out of the lane is the next one that is ready and wasn't offered
pub next-ready : (p : Present) (s : ℕ) (rx : TakeSide) (x : Packet) → IsFed p s rx → IsNext rx.lane.plan rx.got x
    → slice_get (at p s).ready (at p s).offered ≡ Some x
next-ready p s rx x fed next =
    ap (λ (ps : List Packet). slice_get ps (at p s).offered) fed.ready
    ∙ slice_get-drop (at p s).sent (produced (makes_of p.plan s)) (at p s).offered
    ∙ ap (λ (k : ℕ). slice_get (produced (makes_of p.plan s)) k) (sym fed.many)
    ∙ subst (λ (plan : LanePlan). IsNext plan rx.got x) fed.plan next

pub fed-more : (p : Present) (s : ℕ) (rx new : TakeSide) (x : Packet) → IsFed p s rx → new.got ≡ rx.got ++ x ∷ [] → new.lane ≡ rx.lane
    → IsPlanned new.lane.plan new.got → IsFed (on_now s offers_now p) s new
fed-more p s rx new x fed got lane planned = record {
  there = subst (λ n. s < n) (sym (as-many p s offers_now)) fed.there;
  tx = fed.tx;
  plan = plan;
  front = subst (λ (a : LanePlan). IsPlanned a new.got) plan planned;
  many = let one = ap (λ (ps : List Packet). length ps) got in
      let sum = length-append rx.got (x ∷ []) in
      let was = fed.many in
      let sent = ap (λ (st : StreamNow). st.sent) here in
      let offered = ap (λ (st : StreamNow). st.offered) here in
      omega (arith, one, sum, was, sent, offered);
  ready = ap (λ (st : StreamNow). st.ready) here ∙ fed.ready
      ∙ ap (λ (st : StreamNow). drop st.sent (produced (makes_of p.plan s))) (sym here);
}
  where
    here : at (on_now s offers_now p) s ≡ offers_now (at p s)
    here = at-same p s offers_now fed.there

    plan : new.lane.plan ≡ Producer (makes_of p.plan s)
    plan = ap (λ (l : LaneId). l.plan) lane ∙ fed.plan

grown : (old got new : List Packet) (x : Packet) → IsPrefix old got → new ≡ got ++ x ∷ [] → length old < length new
grown old got new x longer is =
    let sum = length-append got (x ∷ []) in
    let len = ap (λ (ps : List Packet). length ps) is in
    let rest = ap (λ (ps : List Packet). length ps) longer.1 in
    let parts = length-append old longer.0 in
    omega (arith, sum, len, rest, parts)

pub hearing-more : (s : ℕ) (p q r : Present) (old rx new : TakeSide) (moved : Bool) (x : Packet) → s < length p.streams
    → IsHearing s p q old rx moved
    → new.got ≡ rx.got ++ x ∷ [] → new.lane ≡ rx.lane → new.known ≡ rx.known → IsPlanned new.lane.plan new.got → IsPrefix new.got new.known
    → r ≡ on_now s offers_now q → IsHearing s p r old new true
hearing-more s p q r old rx new moved x there is got lane known planned order then =
    subst (λ (v : Present). IsHearing s p v old new true) (sym then) (record {
      fed = fed-more q s rx new x is.fed got lane planned;
      lane = lane ∙ is.lane;
      known = known ∙ is.known;
      order = order;
      longer = subst (λ (ps : List Packet). IsPrefix old.got ps) (sym got) (begins_more old.got rx.got x is.longer);
      tells = grown old.got rx.got new.got x is.longer got;
      present = ap (on_now s offers_now) is.present
          ∙ on-twice p s (with_offered (at q s).offered) offers_now (with_offered ((at q s).offered + 1)) there refl
          ∙ ap (λ (n : ℕ). offering s n p) (sym (ap (λ (st : StreamNow). st.offered) (at-same q s offers_now is.fed.there)));
    })

-- a beginning that is no shorter is the whole
pub no-more : (xs ys : List Packet) → IsPrefix xs ys → length ys ≤ length xs → xs ≡ ys
no-more xs ys begins few = by begins.0 begins.1
  where
    by : (rest : List Packet) → xs ++ rest ≡ ys → xs ≡ ys
    by [] is = sym (append-nil xs) ∙ is
    by (r ∷ rest) is = let sum = length-append xs (r ∷ rest) in let len = ap (λ (ps : List Packet). length ps) is in absurd (omega (arith, sum, len, few))

-- the fabric stops where it took all that it knows, or where no more may be offered
pub heard-known : (s : ℕ) (p q : Present) (old rx : TakeSide) (moved : Bool) → IsHearing s p q old rx moved → length rx.known ≤ length rx.got
    → (rx.got ≡ rx.known) ⊎ ((at p s).sent + most_offered ≤ length rx.got)
heard-known s p q old rx moved is few = inl (no-more rx.got rx.known is.order few)

pub heard-many : (s : ℕ) (p q : Present) (old rx : TakeSide) (moved : Bool) → s < length p.streams → IsHearing s p q old rx moved
    → most_offered ≤ (at q s).offered → (rx.got ≡ rx.known) ⊎ ((at p s).sent + most_offered ≤ length rx.got)
heard-many s p q old rx moved there is full =
    let same = ap (λ (v : Present). (at v s).sent) is.present in
    let kept = ap (λ (st : StreamNow). st.sent) (at-same p s (with_offered (at q s).offered) there) in
    let many = is.fed.many in
    inr (omega (arith, same, kept, many, full))
