-- What waits on a stream to an Rx is handed out packet by packet.
use Rattle.std.proofs.Common.{◌≡◌, ℕ, ◌<◌, List, [], ◌∷◌, ◌++◌, length, drop, refl, sym, ap, arith, ◌∙◌, append_assoc}
use Rattle.std.specs.Prelude.{None, Some, slice_get}
use Rattle.std.proofs.lemmas.List.{get_or-set_same, get_or-set_other, append-nil}
use Rattle.chdr_packets.specs.declared.packet.Packet.{Packet}
use Rattle.net_present.specs.Kept.{idle_now, now_at}
use Rattle.net_present.specs.Onward.{on_now}
use Rattle.net_present.specs.Present.{Present, StreamNow}
use Rattle.fabric_parts.specs.Streams.{hands_now}
use Rattle.stream_pump.specs.Drains.{HandsOut, waiting_at}
use Rattle.stream_pump.specs.Supply.{KeepsRun}
use Rattle.stream_pump.proofs.Supplying.{keeps-itself, keeps-on, keeps-stream}

waiting-same : (p : Present) (s : ℕ) → s < length p.streams → waiting_at (on_now s hands_now p) s ≡ drop 1 (waiting_at p s)
waiting-same p s there = ap (λ (st : StreamNow). st.waiting) (get_or-set_same p.streams s (hands_now (now_at p.streams s)) idle_now there)

waiting-other : (p : Present) (s t : ℕ) → (t ≡ s → ⊥) → waiting_at (on_now s hands_now p) t ≡ waiting_at p t
waiting-other p s t other = ap (λ (st : StreamNow). st.waiting) (get_or-set_other p.streams s t (hands_now (now_at p.streams s)) idle_now other)

-- the first and the rest
first-rest : (ws : List Packet) (x : Packet) → slice_get ws 0 ≡ Some x → ws ≡ x ∷ drop 1 ws
first-rest [] x is = cc
first-rest (w ∷ ws) x is = let same : w ≡ x = cc in ap (λ (y : Packet). y ∷ ws) same

none-first : (ws : List Packet) → slice_get ws 0 ≡ None → ws ≡ []
none-first [] is = refl
none-first (w ∷ ws) is = cc

-- Some of what waited on stream s, from present p on, was handed out and appended to a list.
pub record IsHanding (s : ℕ) (p q : Present) (old drain : List Packet) : Type 0 where
  pub run : KeepsRun p q
  pub others : (t : ℕ) → (t ≡ s → ⊥) → waiting_at q t ≡ waiting_at p t
  pub all : drain ++ waiting_at q s ≡ old ++ waiting_at p s

pub handing-first : (s : ℕ) (p : Present) (old : List Packet) → IsHanding s p p old old
handing-first s p old = record { run = keeps-itself p; others = λ t other. refl; all = refl }

pub handing-more : (s : ℕ) (p q : Present) (old drain : List Packet) (x : Packet) → s < length q.streams → IsHanding s p q old drain
    → slice_get (waiting_at q s) 0 ≡ Some x → IsHanding s p (on_now s hands_now q) old (drain ++ x ∷ [])
handing-more s p q old drain x there is first = record {
  run = keeps-on p q (on_now s hands_now q) is.run (keeps-stream q s hands_now);
  others = λ t other. waiting-other q s t other ∙ is.others t other;
  all = ap (λ (ws : List Packet). (drain ++ x ∷ []) ++ ws) (waiting-same q s there)
      ∙ append_assoc drain (x ∷ []) (drop 1 (waiting_at q s))
      ∙ ap (λ (ws : List Packet). drain ++ ws) (sym (first-rest (waiting_at q s) x first))
      ∙ is.all;
}

-- fewer wait
pub fewer-wait : (s : ℕ) (q : Present) (x : Packet) → s < length q.streams → slice_get (waiting_at q s) 0 ≡ Some x
    → length (waiting_at (on_now s hands_now q) s) < length (waiting_at q s)
fewer-wait s q x there first =
    let same = ap (λ (ws : List Packet). length ws) (waiting-same q s there) in
    let more = ap (λ (ws : List Packet). length ws) (first-rest (waiting_at q s) x first) in
    omega (arith, same, more)

pub handing-drain : (s : ℕ) (p q : Present) (old drain : List Packet) → IsHanding s p q old drain
    → slice_get (waiting_at q s) 0 ≡ None → drain ≡ old ++ waiting_at p s
handing-drain s p q old drain is none =
    sym (append-nil drain) ∙ ap (λ (ws : List Packet). drain ++ ws) (sym (none-first (waiting_at q s) none)) ∙ is.all

pub handing-done : (s : ℕ) (p q : Present) (old drain : List Packet) → s < length q.streams → IsHanding s p q old drain
    → slice_get (waiting_at q s) 0 ≡ None → HandsOut s p (on_now s hands_now q)
handing-done s p q old drain there is none = record {
  run = keeps-on p q (on_now s hands_now q) is.run (keeps-stream q s hands_now);
  none = waiting-same q s there ∙ ap (λ (ws : List Packet). drop 1 ws) (none-first (waiting_at q s) none);
  others = λ t other. waiting-other q s t other ∙ is.others t other;
}
