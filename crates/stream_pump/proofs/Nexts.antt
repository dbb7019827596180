-- What happens next in a run on one thread is what the machine's definition says.
use Rattle.std.proofs.Common.{◌≡◌, ℕ, ◌+◌, ◌<◌, ◌≤◌, ◌⊎◌, inl, inr, Bool, true, false, List, [], ◌∷◌, ◌++◌, length, refl, sym, ap, subst, arith, ◌∙◌, length-append}
use Rattle.std.specs.Prelude.{◌&&◌, ◌==◌, IsTrue, Option, None, Some, if◌then◌else◌, nat_le, nat_lt}
use Rattle.std.specs.List.{find, range_with_len}
use Rattle.std.proofs.lemmas.Bool.{cases_eq, le-leb, le-ltb, lt-ltb}
use Rattle.std.proofs.lemmas.Bool.Decides.{eqb_tells}
use Rattle.std.proofs.lemmas.List.{append-nil, get_or-set_other, get_or-set_same}
use Rattle.rf_base.proofs.Finds.{find-passes}
use Rattle.chdr_packets.specs.declared.packet.Packet.{Packet}
use Rattle.net_machine.specs.declared.event.Event.{Event}
use Rattle.net_machine.specs.declared.event.Event.TheVariants.{Seen}
use Rattle.net_machine.specs.declared.plan.RunPlan.{RunPlan}
use Rattle.net_machine.specs.Blocks.{has_packet}
use Rattle.net_machine.specs.Choice.{chosen, enabled_list, has_unseen, next_by, next_of, seed_after, seed_by, seed_of, unseen_of}
use Rattle.net_machine.specs.Conditions.{can_see, enabled, ends_at_rx, has_untaken, may}
use Rattle.net_machine.specs.Effects.{after}
use Rattle.net_machine.specs.Front.{StreamFront, front, front_at, stream_front}
use Rattle.net_machine.specs.State.{State, Stream, stream_at}
use Rattle.net_machine.proofs.Laws.{chosen_is_enabled, fronts}
use Rattle.net_present.specs.Kept.{now_at}
use Rattle.net_present.specs.Laws.{IsHeld}
use Rattle.net_present.specs.Onward.{enabled_now}
use Rattle.net_present.specs.Present.{Present, StreamNow}
use Rattle.net_present.proofs.Laws.{present_tells}
use Rattle.net_promises.proofs.Laws.{lawful_fits_present}
use Rattle.net_growth.proofs.Laws.{seen_takes}
use Rattle.fabric_events.specs.Choosing.{doable_now, is_handed}
use Rattle.fabric_net.specs.Standing.{StandsFor}
use Rattle.stream_pump.specs.Drains.{AreTaken, HandsNext, IsTaken, drain_at, first_waiting, has_waiting, waiting_at}
use Rattle.stream_pump.specs.Running.{IsNext, after_next}
use Rattle.stream_pump.specs.Supply.{OnlyOffers}
use Rattle.stream_pump.proofs.Choosing.{chosen-takes_nothing}
use Rattle.stream_pump.proofs.Growing.{keeps-taken}

-- ---- what waits tells what isn't taken

and-same : (a b c d : Bool) → a ≡ c → (a ≡ true → b ≡ d) → (a && b) ≡ (c && d)
and-same true b c d is same = same refl ∙ ap (λ x. x && d) is
and-same false b c d is same = ap (λ x. x && d) is

lt-waiting : (drain ws : List Packet) → nat_lt (length drain) (length (drain ++ ws)) ≡ has_packet ws
lt-waiting drain [] = ap (λ (l : List Packet). nat_lt (length drain) (length l)) (append-nil drain) ∙ le-ltb (length drain) (length drain) (omega arith)
lt-waiting drain (w ∷ ws) = let many = length-append drain (w ∷ ws) in lt-ltb (length drain) (length (drain ++ w ∷ ws)) (omega (arith, many))

taken-lt : (taken waiting : List Packet) (st : Stream) → IsTaken taken waiting st → nat_lt st.taken (length st.given) ≡ has_packet waiting
taken-lt taken waiting st is =
    ap (λ k. nat_lt k (length st.given)) is.count
    ∙ ap (λ (gs : List Packet). nat_lt (length taken) (length gs)) (sym is.given)
    ∙ lt-waiting taken waiting

unseen-is : (p : Present) (w : State) (drains : List (List Packet)) → StandsFor p w → AreTaken p w drains → (s : ℕ) → has_unseen w s ≡ has_waiting p s
unseen-is p w drains stands taken s =
    and-same (ends_at_rx w.plan s) (has_untaken (front w) s) (ends_at_rx p.plan s) (has_packet (waiting_at p s))
    (ap (λ (plan : RunPlan). ends_at_rx plan s) (sym stands.now.plan))
    (λ rx. ap (λ (st : StreamFront). nat_lt st.taken st.given) (fronts.stream w s) ∙ taken-lt (drain_at drains s) (waiting_at p s) (stream_at w s) (taken s rx))

find-same : (f g : ℕ → Bool) → ((k : ℕ) → f k ≡ g k) → (ns : List ℕ) → find f ns ≡ find g ns
find-same f g same [] = refl
find-same f g same (n ∷ ns) =
    ap (λ (b : Bool). if b then Some n else find f ns) (same n) ∙ ap (λ (o : Option ℕ). if g n then Some n else o) (find-same f g same ns)

pub first-is : (p : Present) (w : State) (drains : List (List Packet)) → StandsFor p w → AreTaken p w drains → unseen_of w ≡ first_waiting p
first-is p w drains stands taken =
    find-same (has_unseen w) (has_waiting p) (unseen-is p w drains stands taken) (range_with_len 0 (length w.streams))
    ∙ ap (λ k. find (has_waiting p) (range_with_len 0 k)) (sym stands.now.as_many_streams)

held-in : (p : Present) (w : State) → StandsFor p w → IsHeld (record { present = p; banks = w.banks }) w
held-in p w stands = record { now = stands.now; banks = refl }

-- ---- an Rx takes all that it has

split : (a b : Bool) → (a && b) ≡ true → (a ≡ true) × (b ≡ true)
split true b is = (refl, is)
split false b is = (is, let none : b ≡ true = absurd (false-true is) in none)
  where
    false-true : false ≡ true → ⊥
    false-true e = cc

both : (a b : Bool) → a ≡ true → b ≡ true → (a && b) ≡ true
both true b first second = second
both false b first second = first

-- what an Rx has it may take
may-take : (w : State) (s n : ℕ) → ends_at_rx w.plan s ≡ true → has_untaken (front w) s ≡ true → n ≡ length (stream_at w s).given
    → IsTrue (enabled w (Seen s n))
unfolding may
may-take w s n rx some is =
    let st = stream_at w s in
    let shown : front_at (front w) s ≡ stream_front st = fronts.stream w s in
    let lt : nat_lt st.taken (length st.given) ≡ true = ap (λ (x : StreamFront). nat_lt x.taken x.given) (sym shown) ∙ some in
    let can : can_see (stream_front st) (length st.given) ≡ true =
    both (nat_lt st.taken (length st.given)) (nat_le (length st.given) (length st.given)) lt (le-true (length st.given)) in
    both (ends_at_rx w.plan s) (can_see (front_at (front w) s) n) rx
    (ap (λ (x : StreamFront). can_see x n) shown ∙ ap (λ k. can_see (stream_front st) k) is ∙ can)
  where
    le-true : (k : ℕ) → nat_le k k ≡ true
    le-true k = le-leb k k (omega arith)

-- the first of them that has something
pub record IsFirst (s : ℕ) (p q : Present) (w : State) (old new : List (List Packet)) : Type 0 where
  pub before : StandsFor p w
  pub after : StandsFor q w
  pub taken : AreTaken p w old
  pub hands : HandsNext (Some s) p q old new
  pub there : s < length old

unseen-first : (s : ℕ) (p q : Present) (w : State) (old new : List (List Packet)) → IsFirst s p q w old new → unseen_of w ≡ Some s
unseen-first s p q w old new f = first-is p w old f.before f.taken ∙ sym f.hands.found

first-rx : (s : ℕ) (p q : Present) (w : State) (old new : List (List Packet)) → IsFirst s p q w old new
    → (ends_at_rx w.plan s ≡ true) × (has_untaken (front w) s ≡ true)
first-rx s p q w old new f =
    split (ends_at_rx w.plan s) (has_untaken (front w) s) (find-passes (has_unseen w) (range_with_len 0 (length w.streams)) s (unseen-first s p q w old new f))

drain-here : (s : ℕ) (p q : Present) (w : State) (old new : List (List Packet)) → IsFirst s p q w old new
    → drain_at new s ≡ drain_at old s ++ waiting_at p s
drain-here s p q w old new f =
    ap (λ (ds : List (List Packet)). drain_at ds s) f.hands.drains ∙ get_or-set_same old s (drain_at old s ++ waiting_at p s) [] f.there

drain-other : (s : ℕ) (p q : Present) (w : State) (old new : List (List Packet)) → IsFirst s p q w old new
    → (t : ℕ) → (t ≡ s → ⊥) → drain_at new t ≡ drain_at old t
drain-other s p q w old new f t other =
    ap (λ (ds : List (List Packet)). drain_at ds t) f.hands.drains ∙ get_or-set_other old s t (drain_at old s ++ waiting_at p s) [] other

pub first-given : (s : ℕ) (p q : Present) (w : State) (old new : List (List Packet)) → IsFirst s p q w old new
    → drain_at new s ≡ (stream_at w s).given
first-given s p q w old new f = drain-here s p q w old new f ∙ (f.taken s (first-rx s p q w old new f).0).given

pub first-enabled : (s : ℕ) (p q : Present) (w : State) (old new : List (List Packet)) → IsFirst s p q w old new
    → IsTrue (enabled w (Seen s (length (drain_at new s))))
first-enabled s p q w old new f = let rx = first-rx s p q w old new f in
    may-take w s (length (drain_at new s)) rx.0 rx.1 (ap (λ (ps : List Packet). length ps) (first-given s p q w old new f))

none-waits : (s : ℕ) (p q : Present) (old new : List (List Packet)) → HandsNext (Some s) p q old new → waiting_at q s ≡ []
none-waits s p q old new hands = hands.waiting s ∙ by (eqb_tells s s)
  where
    by : (((s == s) ≡ true) × (s ≡ s)) ⊎ (((s == s) ≡ false) × (s ≡ s → ⊥)) → (if s == s then [] else waiting_at p s) ≡ []
    by (inl met) = ap (λ (c : Bool). if c then [] else waiting_at p s) met.0
    by (inr unmet) = absurd (unmet.1 refl)

others-wait : (s : ℕ) (p q : Present) (old new : List (List Packet)) → HandsNext (Some s) p q old new → (t : ℕ) → (t ≡ s → ⊥)
    → waiting_at q t ≡ waiting_at p t
others-wait s p q old new hands t other = hands.waiting t ∙ by (eqb_tells t s)
  where
    by : (((t == s) ≡ true) × (t ≡ s)) ⊎ (((t == s) ≡ false) × (t ≡ s → ⊥)) → (if t == s then [] else waiting_at p t) ≡ waiting_at p t
    by (inl met) = absurd (other met.1)
    by (inr unmet) = ap (λ (c : Bool). if c then [] else waiting_at p t) unmet.0

given-then : (s : ℕ) (p q : Present) (w : State) (old new : List (List Packet)) → IsFirst s p q w old new → (t : ℕ) → ends_at_rx w.plan t ≡ true
    → drain_at new t ++ waiting_at q t ≡ (stream_at w t).given
given-then s p q w old new f t rx = by (cases_eq t s)
  where
    by : (t ≡ s) ⊎ (t ≡ s → ⊥) → drain_at new t ++ waiting_at q t ≡ (stream_at w t).given
    by (inl here) = subst (λ k. drain_at new k ++ waiting_at q k ≡ (stream_at w k).given) (sym here)
        (ap (λ (ws : List Packet). drain_at new s ++ ws) (none-waits s p q old new f.hands) ∙ append-nil (drain_at new s) ∙ first-given s p q w old new f)
    by (inr other) =
        ap (λ (ds : List Packet). ds ++ waiting_at q t) (drain-other s p q w old new f t other)
        ∙ ap (λ (ws : List Packet). drain_at old t ++ ws) (others-wait s p q old new f.hands t other)
        ∙ (f.taken t rx).given

taken-then : (s : ℕ) (p q : Present) (w : State) (old new : List (List Packet)) → IsFirst s p q w old new → (t : ℕ) → ends_at_rx w.plan t ≡ true
    → (stream_at (after w (Seen s (length (drain_at new s)))) t).taken ≡ length (drain_at new t)
taken-then s p q w old new f t rx = by (cases_eq t s)
  where
    n : ℕ
    n = length (drain_at new s)

    takes : (stream_at (after w (Seen s (length (drain_at new s)))) s).taken ≡ length (drain_at new s)
    takes = (seen_takes (record { present = q; banks = w.banks }) w s (length (drain_at new s)) (held-in q w f.after) (first-enabled s p q w old new f)).taken

    by : (t ≡ s) ⊎ (t ≡ s → ⊥) → (stream_at (after w (Seen s (length (drain_at new s)))) t).taken ≡ length (drain_at new t)
    by (inl here) = subst (λ k. (stream_at (after w (Seen s (length (drain_at new s)))) k).taken ≡ length (drain_at new k)) (sym here) takes
    by (inr other) =
        (seen_takes (record { present = q; banks = w.banks }) w s (length (drain_at new s)) (held-in q w f.after) (first-enabled s p q w old new f)).others t other
        ∙ (f.taken t rx).count
        ∙ ap (λ (ps : List Packet). length ps) (sym (drain-other s p q w old new f t other))

next-is : (seed : ℕ) (w : State) (s n : ℕ) → unseen_of w ≡ Some s → n ≡ length (stream_at w s).given → ◌≡◌ {A = Option Event} (Some (Seen s n)) (next_of seed w)
unfolding next_of
next-is seed w s n unseen is = ap (λ k. Some (Seen s k)) is ∙ ap (next_by seed w) (sym unseen)

seed-is : (seed : ℕ) (w : State) (s : ℕ) → unseen_of w ≡ Some s → seed ≡ seed_of seed w
unfolding seed_of
seed-is seed w s unseen = ap (seed_by seed w) (sym unseen)

pub next-taking : (seed s : ℕ) (p q : Present) (w : State) (old new : List (List Packet)) → IsFirst s p q w old new
    → IsNext seed w (Some (Seen s (length (drain_at new s)))) seed q new
next-taking seed s p q w old new f = record {
  event = next-is seed w s (length (drain_at new s)) (unseen-first s p q w old new f) (ap (λ (ps : List Packet). length ps) (first-given s p q w old new f));
  seeds = seed-is seed w s (unseen-first s p q w old new f);
  stands = f.after;
  given = given-then s p q w old new f;
  taken = taken-then s p q w old new f;
}

-- and the net can do it
pub doable-taking : (s : ℕ) (p q : Present) (w : State) (old new : List (List Packet)) → IsFirst s p q w old new
    → IsTrue (doable_now q (Seen s (length (drain_at new s))))
unfolding doable_now
doable-taking s p q w old new f =
    let n = length (drain_at new s) in
    let is = f.after.now.streams s in
    let can = present_tells q w (Seen s n) f.after.now ∙ first-enabled s p q w old new f in
    let none = ap (λ (ps : List Packet). length ps) (none-waits s p q old new f.hands) in
    let has : (now_at q.streams s).given ≡ length (stream_at w s).given = ap (λ (st : StreamNow). st.given) is.is in
    let same : n ≡ length (stream_at w s).given = ap (λ (ps : List Packet). length ps) (first-given s p q w old new f) in
    both (enabled_now q (Seen s n)) (is_handed q s n) can (handed n (length (waiting_at q s)) (now_at q.streams s).given (omega (arith, none, has, same)))
  where
    handed : (n m k : ℕ) → n + m ≤ k → nat_le (n + m) k ≡ true
    handed n m k le = le-leb (n + m) k le

-- ---- the seed chooses

next-chosen-is : (seed : ℕ) (w : State) → unseen_of w ≡ None → chosen seed w ≡ next_of seed w
unfolding next_of
next-chosen-is seed w none = ap (next_by seed w) (sym none)

seed-chosen-is : (seed : ℕ) (w : State) → unseen_of w ≡ None → seed_after seed (enabled_list w) ≡ seed_of seed w
unfolding seed_of
seed-chosen-is seed w none = ap (seed_by seed w) (sym none)

-- no Rx has anything, each Tx offers what it has, and this is chosen
pub record IsChoice (seed : ℕ) (p q r : Present) (w : State) (old new : List (List Packet)) (next : Option Event) (left : ℕ) : Type 0 where
  pub before : StandsFor p w
  pub after : StandsFor r w
  pub taken : AreTaken p w old
  pub hands : HandsNext None p q old new
  pub offers : OnlyOffers q r
  pub event : next ≡ chosen seed w
  pub seeds : left ≡ seed_after seed (enabled_list w)

same-waits : (seed : ℕ) (p q r : Present) (w : State) (old new : List (List Packet)) (next : Option Event) (left : ℕ)
    → IsChoice seed p q r w old new next left → (s : ℕ) → waiting_at r s ≡ waiting_at p s
same-waits seed p q r w old new next left c s = (c.offers.each s).waiting ∙ c.hands.waiting s

taken-past : (seed : ℕ) (r : Present) (w : State) (next : Option Event) → StandsFor r w → next ≡ chosen seed w → (s : ℕ) → ends_at_rx w.plan s ≡ true
    → (stream_at (after_next w next) s).taken ≡ (stream_at w s).taken
taken-past seed r w None stands is s rx = refl
taken-past seed r w (Some e) stands is s rx =
    keeps-taken (record { present = r; banks = w.banks }) w e s (held-in r w stands) (lawful_fits_present w stands.lawful)
    (chosen_is_enabled seed w e (sym is)) rx (chosen-takes_nothing seed w e (sym is))

pub next-chosen : (seed : ℕ) (p q r : Present) (w : State) (old new : List (List Packet)) (next : Option Event) (left : ℕ)
    → IsChoice seed p q r w old new next left → IsNext seed w next left r new
next-chosen seed p q r w old new next left c = record {
  event = c.event ∙ next-chosen-is seed w none;
  seeds = c.seeds ∙ seed-chosen-is seed w none;
  stands = c.after;
  given = λ s rx. ap (λ (ds : List Packet). ds ++ waiting_at r s) (same s)
      ∙ ap (λ (ws : List Packet). drain_at old s ++ ws) (same-waits seed p q r w old new next left c s) ∙ (c.taken s rx).given;
  taken = λ s rx. taken-past seed r w next c.after c.event s rx ∙ (c.taken s rx).count ∙ ap (λ (ps : List Packet). length ps) (sym (same s));
}
  where
    none : unseen_of w ≡ None
    none = first-is p w old c.before c.taken ∙ sym c.hands.found

    same : (s : ℕ) → drain_at new s ≡ drain_at old s
    same s = ap (λ (ds : List (List Packet)). drain_at ds s) c.hands.drains
