-- The fabric puts what waits on a stream into the stream's drain lane, packet by packet.
use Rattle.std.proofs.Common.{◌≡◌, ℕ, ◌+◌, ◌<◌, ◌≤◌, List, [], ◌∷◌, ◌++◌, length, drop, refl, sym, ap, subst, arith, ◌∙◌, append_assoc, length-append}
use Rattle.std.specs.Prelude.{None, Some, slice_get}
use Rattle.std.proofs.lemmas.List.{append-nil}
use Rattle.chdr_packets.specs.declared.packet.Packet.{Packet}
use Rattle.credit_lane.specs.Sides.{LaneId, PutSide}
use Rattle.net_present.specs.Onward.{on_now}
use Rattle.net_present.specs.Present.{Present, StreamNow}
use Rattle.fabric_parts.specs.Streams.{hands_now}
use Rattle.stream_rounds.specs.Presents.{at, handing, with_waiting}
use Rattle.stream_rounds.proofs.Lists.{first_rest, none_first}
use Rattle.stream_rounds.proofs.Presents.{as-many, at-same, on-nothing, on-twice}

-- So far packets that waited on stream s were put, from present p and end old on.
pub record IsHandingAll (s : ℕ) (p q : Present) (old tx : PutSide) (put : ℕ) : Type 0 where
  pub lane : tx.lane ≡ old.lane
  pub taken : tx.taken ≡ old.taken
  pub count : put ≡ length tx.put
  pub all : tx.put ++ (at q s).waiting ≡ old.put ++ (at p s).waiting
  pub present : q ≡ handing s (at q s).waiting p

pub handing-first : (s : ℕ) (p : Present) (tx : PutSide) (put : ℕ) → put ≡ length tx.put → IsHandingAll s p p tx tx put
handing-first s p tx put count = record {
  lane = refl;
  taken = refl;
  count = count;
  all = refl;
  present = sym (on-nothing p s (with_waiting (at p s).waiting) refl);
}

-- what is put and what waits is as many as before, so there is room for what waits
pub handing-room : (s : ℕ) (p q : Present) (old tx : PutSide) (put : ℕ) (x : Packet) → IsHandingAll s p q old tx put
    → slice_get (at q s).waiting 0 ≡ Some x → length old.put + length (at p s).waiting ≤ old.lane.room + old.taken
    → length tx.put < tx.lane.room + tx.taken
handing-room s p q old tx put x is first room =
    let sum = ap (λ (ps : List Packet). length ps) is.all in
    let left = length-append tx.put (at q s).waiting in
    let right = length-append old.put (at p s).waiting in
    let some = ap (λ (ps : List Packet). length ps) (first_rest (at q s).waiting x first) in
    let lane = ap (λ (l : LaneId). l.room) is.lane in
    let taken = is.taken in
    omega (arith, sum, left, right, some, lane, taken, room)

pub handing-there : (s : ℕ) (p q : Present) (old tx : PutSide) (put : ℕ) → s < length p.streams → IsHandingAll s p q old tx put → s < length q.streams
handing-there s p q old tx put there is =
    subst (λ (v : Present). s < length v.streams) (sym is.present) (subst (λ n. s < n) (sym (as-many p s (with_waiting (at q s).waiting))) there)

pub handing-plan : (s : ℕ) (p q : Present) (old tx : PutSide) (put : ℕ) → IsHandingAll s p q old tx put → q.plan ≡ p.plan
handing-plan s p q old tx put is = ap (λ (v : Present). v.plan) is.present

pub handing-more : (s : ℕ) (p q r : Present) (old tx new : PutSide) (put more : ℕ) (x : Packet) → s < length p.streams
    → IsHandingAll s p q old tx put → slice_get (at q s).waiting 0 ≡ Some x
    → new.put ≡ tx.put ++ x ∷ [] → new.lane ≡ tx.lane → new.taken ≡ tx.taken → more ≡ put + 1
    → r ≡ on_now s hands_now q → IsHandingAll s p r old new more
handing-more s p q r old tx new put more x there is first got lane taken one then =
    subst (λ (v : Present). IsHandingAll s p v old new more) (sym then) (record {
      lane = lane ∙ is.lane;
      taken = taken ∙ is.taken;
      count = let sum = length-append tx.put (x ∷ []) in
          let len = ap (λ (ps : List Packet). length ps) got in
          let was = is.count in
          omega (arith, sum, len, was, one);
      all = ap (λ (ps : List Packet). ps ++ (at (on_now s hands_now q) s).waiting) got
          ∙ ap (λ (st : StreamNow). (tx.put ++ x ∷ []) ++ st.waiting) (at-same q s hands_now (handing-there s p q old tx put there is))
          ∙ append_assoc tx.put (x ∷ []) (drop 1 (at q s).waiting)
          ∙ ap (λ (ps : List Packet). tx.put ++ ps) (sym (first_rest (at q s).waiting x first))
          ∙ is.all;
      present = ap (on_now s hands_now) is.present
          ∙ on-twice p s (with_waiting (at q s).waiting) hands_now (with_waiting (drop 1 (at q s).waiting)) there refl
          ∙ ap (λ (ps : List Packet). handing s ps p) (sym (ap (λ (st : StreamNow). st.waiting) (at-same q s hands_now (handing-there s p q old tx put there is))));
    })

-- once nothing waits, all is put
pub handed-all : (s : ℕ) (p q : Present) (old tx : PutSide) (put : ℕ) → IsHandingAll s p q old tx put → slice_get (at q s).waiting 0 ≡ None
    → tx.put ≡ old.put ++ (at p s).waiting
handed-all s p q old tx put is none =
    sym (append-nil tx.put) ∙ ap (λ (ps : List Packet). tx.put ++ ps) (sym (none_first (at q s).waiting none)) ∙ is.all

-- and then a further look changes nothing
pub handed-present : (s : ℕ) (p q r : Present) (old tx : PutSide) (put : ℕ) → s < length p.streams → IsHandingAll s p q old tx put
    → slice_get (at q s).waiting 0 ≡ None → r ≡ on_now s hands_now q → r ≡ handing s [] p
handed-present s p q r old tx put there is none then =
    then
    ∙ on-nothing q s hands_now (ap (λ (ps : List Packet). record (at q s) { waiting = ps }) (ap (λ (ps : List Packet). drop 1 ps) empty ∙ sym empty))
    ∙ is.present
    ∙ ap (λ (ps : List Packet). handing s ps p) empty
  where
    empty : (at q s).waiting ≡ []
    empty = none_first (at q s).waiting none

-- fewer wait
pub fewer-wait : (s : ℕ) (q : Present) (x : Packet) → s < length q.streams → slice_get (at q s).waiting 0 ≡ Some x
    → length (at (on_now s hands_now q) s).waiting < length (at q s).waiting
fewer-wait s q x there first =
    let same = ap (λ (st : StreamNow). length st.waiting) (at-same q s hands_now there) in
    let more = ap (λ (ps : List Packet). length ps) (first_rest (at q s).waiting x first) in
    omega (arith, same, more)
