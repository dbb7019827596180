-- The first stream to an Rx on which something waits.
use Rattle.std.proofs.Common.{◌≡◌, ℕ, ◌+◌, ◌<◌, ◌≤◌, ◌⊎◌, inl, inr, Bool, true, false, List, [], ◌∷◌, ◌++◌, length, set, refl, sym, ap, subst, arith, ◌∙◌, length-append}
use Rattle.std.specs.Prelude.{◌&&◌, ◌==◌, None, Some, if◌then◌else◌}
use Rattle.std.specs.List.{find, range_with_len}
use Rattle.std.proofs.lemmas.Bool.{cases_eq, cases_lt, false≢true}
use Rattle.std.proofs.lemmas.Bool.Decides.{eqb_tells}
use Rattle.std.proofs.lemmas.List.{append-nil, get_or_past, map-id, set-get_or}
use Rattle.rf_base.proofs.Finds.{find-first, find-nowhere, find-passes}
use Rattle.chdr_packets.specs.declared.packet.Packet.{Packet}
use Rattle.net_machine.specs.Blocks.{has_packet}
use Rattle.net_machine.specs.Conditions.{ends_at_rx}
use Rattle.net_machine.specs.declared.plan.RunPlan.{RunPlan}
use Rattle.net_present.specs.Kept.{idle_now}
use Rattle.net_present.specs.Present.{Present, StreamNow}
use Rattle.stream_pump.specs.Drains.{HandsNext, HandsOut, drain_at, first_waiting, has_waiting, waiting_at, waiting_past}
use Rattle.stream_pump.specs.Supply.{KeepsRun}
use Rattle.stream_pump.proofs.Supplying.{keeps-itself, keeps-on}

-- Nothing waits for an Rx on the first k streams, and so nothing was handed out.
pub record IsLooking (k : ℕ) (p q : Present) (old new : List (List Packet)) : Type 0 where
  pub run : KeepsRun p q
  pub waiting : (t : ℕ) → waiting_at q t ≡ waiting_at p t
  pub drains : new ≡ old
  pub none : (t : ℕ) → t < k → has_waiting p t ≡ false

pub looking-first : (p : Present) (drains : List (List Packet)) → IsLooking 0 p p drains drains
looking-first p drains = record {
  run = keeps-itself p;
  waiting = λ t. refl;
  drains = refl;
  none = λ t lt. absurd (omega (arith, lt));
}

none-further : (p : Present) (k : ℕ) → ((t : ℕ) → t < k → has_waiting p t ≡ false) → has_waiting p k ≡ false
    → (t : ℕ) → t < k + 1 → has_waiting p t ≡ false
none-further p k before here t lt = by (cases_eq t k)
  where
    by : (t ≡ k) ⊎ (t ≡ k → ⊥) → has_waiting p t ≡ false
    by (inl is) = subst (λ j. has_waiting p j ≡ false) (sym is) here
    by (inr not) = before t (omega (arith, lt, not))

not-both : (a b : Bool) → (a ≡ true → ⊥) → (a && b) ≡ false
not-both true b not = absurd (not refl)
not-both false b not = refl

-- nor does it on one that doesn't end at an Rx
pub looking-past : (k : ℕ) (p q : Present) (plan : RunPlan) (old new : List (List Packet)) → p.plan ≡ plan
    → (ends_at_rx plan k ≡ true → ⊥) → IsLooking k p q old new → IsLooking (k + 1) p q old new
looking-past k p q plan old new is not looks = record {
  run = looks.run;
  waiting = looks.waiting;
  drains = looks.drains;
  none = none-further p k looks.none
      (not-both (ends_at_rx p.plan k) (has_packet (waiting_at p k)) (λ rx. not (subst (λ (r : RunPlan). ends_at_rx r k ≡ true) is rx)));
}

none-more : (drain ws : List Packet) → length (drain ++ ws) ≤ length drain → ws ≡ []
none-more drain [] few = refl
none-more drain (w ∷ ws) few = let many = length-append drain (w ∷ ws) in absurd (omega (arith, few, many))

both-false : (a : Bool) (ws : List Packet) → ws ≡ [] → (a && has_packet ws) ≡ false
both-false true ws is = ap has_packet is
both-false false ws is = refl

-- nor on one of which nothing was handed out
pub looking-on : (k : ℕ) (p q r : Present) (old new : List (List Packet)) (drain : List Packet) → IsLooking k p q old new
    → HandsOut k q r → drain ≡ drain_at new k ++ waiting_at q k → length drain ≤ length (drain_at new k)
    → IsLooking (k + 1) p r old (set new k drain)
looking-on k p q r old new drain looks hands is few = record {
  run = keeps-on p q r looks.run hands.run;
  waiting = λ t. by t (cases_eq t k);
  drains = ap (λ (d : List Packet). set new k d) same ∙ set-get_or new k [] ∙ looks.drains;
  none = none-further p k looks.none (both-false (ends_at_rx p.plan k) (waiting_at p k) (sym (looks.waiting k) ∙ none));
}
  where
    none : waiting_at q k ≡ []
    none = none-more (drain_at new k) (waiting_at q k) (subst (λ (d : List Packet). length d ≤ length (drain_at new k)) is few)

    same : drain ≡ drain_at new k
    same = is ∙ ap (λ (ws : List Packet). drain_at new k ++ ws) none ∙ append-nil (drain_at new k)

    by : (t : ℕ) → (t ≡ k) ⊎ (t ≡ k → ⊥) → waiting_at r t ≡ waiting_at p t
    by t (inl here) = subst (λ j. waiting_at r j ≡ waiting_at p j) (sym here) (hands.none ∙ sym none ∙ looks.waiting k)
    by t (inr other) = hands.others t other ∙ looks.waiting t

-- ---- what is found

past-none : (a : Bool) (ws : List Packet) → ws ≡ [] → (a && has_packet ws) ≡ true → ⊥
past-none a ws none is = false≢true (sym (both-false a ws none) ∙ is)

-- a stream on which something waits is there
pub waits-there : (p : Present) (s : ℕ) → has_waiting p s ≡ true → s < length p.streams
waits-there p s some = by (cases_lt s (length p.streams))
  where
    by : (s < length p.streams) ⊎ (length p.streams ≤ s) → s < length p.streams
    by (inl lt) = lt
    by (inr past) = absurd (past-none (ends_at_rx p.plan s) (waiting_at p s)
        (ap (λ (st : StreamNow). st.waiting) (get_or_past p.streams s idle_now past)) some)

pub first-there : (s : ℕ) (p q : Present) (old new : List (List Packet)) → HandsNext (Some s) p q old new → s < length p.streams
first-there s p q old new hands =
    waits-there p s (find-passes (has_waiting p) (range_with_len 0 (length p.streams)) s (sym hands.found))

pub found-none : (p : Present) (n : ℕ) → length p.streams ≡ n → ((t : ℕ) → t < n → has_waiting p t ≡ false) → first_waiting p ≡ None
found-none p n many none =
    ap (λ (ns : List ℕ). find (has_waiting p) ns) (sym (map-id (range_with_len 0 (length p.streams))))
    ∙ find-nowhere (has_waiting p) (λ k. k) 0 (length p.streams) (λ k low high. none k (omega (arith, many, high)))

pub found-first : (p : Present) (n s : ℕ) → length p.streams ≡ n → s < n → ((t : ℕ) → t < s → has_waiting p t ≡ false)
    → has_waiting p s ≡ true → first_waiting p ≡ Some s
found-first p n s many lt none some =
    ap (λ (ns : List ℕ). find (has_waiting p) ns) (sym (map-id (range_with_len 0 (length p.streams))))
    ∙ find-first (has_waiting p) (λ k. k) 0 (length p.streams) s (omega arith) (omega (arith, many, lt)) (λ k low high. none k high) some

pub hands-nothing : (n : ℕ) (p q : Present) (old new : List (List Packet)) → length p.streams ≡ n → IsLooking n p q old new
    → HandsNext None p q old new
hands-nothing n p q old new many looks = record {
  run = looks.run;
  found = sym (found-none p n many looks.none);
  waiting = looks.waiting;
  drains = looks.drains;
}

some-more : (drain ws : List Packet) → length drain < length (drain ++ ws) → has_packet ws ≡ true
some-more drain [] more = let same = ap (λ (l : List Packet). length l) (append-nil drain) in absurd (omega (arith, more, same))
some-more drain (w ∷ ws) more = refl

both-true : (a b : Bool) → a ≡ true → b ≡ true → (a && b) ≡ true
both-true true b first second = second
both-true false b first second = first

if-same : (t s : ℕ) (a b : List Packet) → t ≡ s → (if t == s then a else b) ≡ a
if-same t s a b is = by (eqb_tells t s)
  where
    by : (((t == s) ≡ true) × (t ≡ s)) ⊎ (((t == s) ≡ false) × (t ≡ s → ⊥)) → (if t == s then a else b) ≡ a
    by (inl met) = ap (λ (c : Bool). if c then a else b) met.0
    by (inr unmet) = absurd (unmet.1 is)

if-other : (t s : ℕ) (a b : List Packet) → (t ≡ s → ⊥) → (if t == s then a else b) ≡ b
if-other t s a b not = by (eqb_tells t s)
  where
    by : (((t == s) ≡ true) × (t ≡ s)) ⊎ (((t == s) ≡ false) × (t ≡ s → ⊥)) → (if t == s then a else b) ≡ b
    by (inl met) = absurd (not met.1)
    by (inr unmet) = ap (λ (c : Bool). if c then a else b) unmet.0

pub hands-first : (n s : ℕ) (p q r : Present) (plan : RunPlan) (old new : List (List Packet)) (drain : List Packet)
    → length p.streams ≡ n → s < n → p.plan ≡ plan → ends_at_rx plan s ≡ true → IsLooking s p q old new → HandsOut s q r
    → drain ≡ drain_at new s ++ waiting_at q s → length (drain_at new s) < length drain → HandsNext (Some s) p r old (set new s drain)
hands-first n s p q r plan old new drain many lt same rx looks hands is more = record {
  run = keeps-on p q r looks.run hands.run;
  found = sym (found-first p n s many lt looks.none
      (both-true (ends_at_rx p.plan s) (has_packet (waiting_at p s)) (subst (λ (x : RunPlan). ends_at_rx x s ≡ true) (sym same) rx)
      (subst (λ (ws : List Packet). has_packet ws ≡ true) (looks.waiting s)
      (some-more (drain_at new s) (waiting_at q s) (subst (λ (d : List Packet). length (drain_at new s) < length d) is more)))));
  waiting = λ t. by t (cases_eq t s);
  drains = ap (λ (d : List Packet). set new s d) is
      ∙ ap (λ (ws : List Packet). set new s (drain_at new s ++ ws)) (looks.waiting s)
      ∙ ap (λ (ds : List (List Packet)). set ds s (drain_at ds s ++ waiting_at p s)) looks.drains;
}
  where
    by : (t : ℕ) → (t ≡ s) ⊎ (t ≡ s → ⊥) → waiting_at r t ≡ waiting_past (Some s) p t
    by t (inl here) = subst (λ j. waiting_at r j ≡ []) (sym here) hands.none ∙ sym (if-same t s [] (waiting_at p t) here)
    by t (inr other) = hands.others t other ∙ looks.waiting t ∙ sym (if-other t s [] (waiting_at p t) other)
