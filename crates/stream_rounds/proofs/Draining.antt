-- The drain lanes: what was put and what waits stays what was given, whatever happens.
use Rattle.std.proofs.Common.{◌≡◌, ℕ, ◌+◌, ◌<◌, ◌≤◌, ◌⊎◌, inl, inr, Bool, true, false, List, [], ◌++◌, length, refl, sym, ap, subst, arith, ◌∙◌, append_assoc, length-append}
use Rattle.std.specs.Prelude.{◌&&◌, Option, nat_le, nat_lt}
use Rattle.std.proofs.lemmas.Bool.{cases_lt, false≢true, le-leb, lt-ltb}
use Rattle.std.proofs.lemmas.List.{append-nil}
use Rattle.block_registers.specs.Registers.{Registers}
use Rattle.chdr_packets.specs.declared.packet.Packet.{Packet}
use Rattle.credit_lane.specs.Sides.{LaneId, PutSide}
use Rattle.net_machine.specs.declared.event.Event.{Event}
use Rattle.net_machine.specs.declared.event.Event.TheVariants as event
use Rattle.net_machine.specs.declared.plan.RunPlan.{RunPlan}
use Rattle.net_machine.specs.Conditions.{can_see, ends_at_rx, may}
use Rattle.net_machine.specs.Effects.{after}
use Rattle.net_machine.specs.Front.{StreamFront, front_at}
use Rattle.net_machine.specs.Plans.{plan_at}
use Rattle.net_machine.specs.State.{State, stream_at}
use Rattle.net_present.specs.Onward.{enabled_now}
use Rattle.net_present.specs.Present.{Present, StreamNow, front_now}
use Rattle.net_growth.specs.Growing.{Grows, IsNoTakingOf}
use Rattle.net_growth.specs.Taking.{TakesTo}
use Rattle.net_growth.proofs.Laws.{given_grows, seen_takes}
use Rattle.net_needs.proofs.Laws.{sizes_stay}
use Rattle.net_promises.proofs.Laws.{lawful_fits_present, streams_are_within}
use Rattle.fabric_events.specs.Choosing.{doable_now, is_handed}
use Rattle.fabric_events.proofs.Laws.{front_of_stream}
use Rattle.fabric_net.specs.NetView.{NetSeen}
use Rattle.fabric_net.specs.Standing.{StandsFor}
use Rattle.stream_rounds.specs.Between.{IsDrained}
use Rattle.stream_rounds.specs.Presents.{at, handing, with_waiting}
use Rattle.stream_rounds.specs.Steps.{IsStepped}
use Rattle.stream_rounds.proofs.Journals.{step-enabled, step-held}
use Rattle.stream_rounds.proofs.Plainly.{IsPlain}
use Rattle.stream_rounds.proofs.Presents.{as-many, at-other, at-same}

-- ---- counts

-- a present counts what was given, and what was taken
pub given-count : (p : Present) (w : State) (s : ℕ) → StandsFor p w → (at p s).given ≡ length (stream_at w s).given
given-count p w s stands = ap (λ (st : StreamNow). st.given) (stands.now.streams s).is

pub taken-count : (p : Present) (w : State) (s : ℕ) → StandsFor p w → (at p s).taken ≡ (stream_at w s).taken
taken-count p w s stands = ap (λ (st : StreamNow). st.taken) (stands.now.streams s).is

pub drained-count : (p : Present) (w : State) (s : ℕ) (tx : PutSide) → StandsFor p w → IsDrained p w s tx
    → length tx.put + length (at p s).waiting ≡ (at p s).given
drained-count p w s tx stands drained =
    let sum = length-append tx.put (at p s).waiting in
    let all = ap (λ (ps : List Packet). length ps) drained.given in
    let count = given-count p w s stands in
    omega (arith, sum, all, count)

-- so the lane has room for what waits
pub drained-room : (p : Present) (w : State) (s : ℕ) (tx : PutSide) → StandsFor p w → IsDrained p w s tx
    → length tx.put + length (at p s).waiting ≤ tx.lane.room + tx.taken
drained-room p w s tx stands drained =
    let count = drained-count p w s tx stands drained in
    let given = given-count p w s stands in
    let taken = taken-count p w s stands in
    let there : s < length w.streams = subst (λ n. s < n) stands.now.as_many_streams drained.there in
    let many = stands.lawful.steady.as_many in
    let within = streams_are_within w s (omega (arith, there, many)) stands.lawful in
    let held = within.held in
    let cap = within.buffered_packets in
    let room = drained.room ∙ ap (λ (r : RunPlan). (plan_at r s).flow.cap_packets) stands.now.plan in
    let known = drained.known in
    omega (arith, count, given, taken, held, cap, room, known)

-- ---- an event that is no taking

no-taking : (e : Event) (s : ℕ) → IsPlain e → IsNoTakingOf e s
no-taking (event.Enter t) s plain = tt
no-taking (event.Command t op) s plain = tt
no-taking (event.Report t) s plain = tt
no-taking (event.Seen t n) s plain = absurd (plain tt)
no-taking (event.Feed b i) s plain = tt
no-taking (event.Ask x) s plain = tt
no-taking (event.Reply x) s plain = tt
no-taking (event.Lose q) s plain = tt
no-taking (event.Hop q) s plain = tt

grows-at : (w : State) (e : Event) (s : ℕ) (old new : NetSeen) (before banks : List (Option Registers)) → StandsFor old.present w → w.banks ≡ before
    → IsStepped e old new before banks → IsNoTakingOf e s → ends_at_rx old.present.plan s ≡ true
    → Grows (record { present = old.present; banks = before }) w e s
grows-at w e s old new before banks stands slots step other rx =
    given_grows (record { present = old.present; banks = before }) w e s (step-held w e old new before banks stands slots step)
    (lawful_fits_present w stands.lawful) (step-enabled w e old new before banks stands step)
    (subst (λ (r : RunPlan). ends_at_rx r s ≡ true) stands.now.plan rx) other

pub plan-stays : (e : Event) (old new : NetSeen) (before banks : List (Option Registers)) → IsStepped e old new before banks → new.present.plan ≡ old.present.plan
plan-stays e old new before banks step =
    ap (λ (q : Present). q.plan) step.present ∙ (sizes_stay e (record { present = old.present; banks = before })).plan

pub streams-stay : (e : Event) (old new : NetSeen) (before banks : List (Option Registers)) → IsStepped e old new before banks
    → length new.present.streams ≡ length old.present.streams
streams-stay e old new before banks step =
    ap (λ (q : Present). length q.streams) step.present ∙ (sizes_stay e (record { present = old.present; banks = before })).streams

-- what the machine counts taken stays
pub taken-stays : (w : State) (e : Event) (s : ℕ) (old new : NetSeen) (before banks : List (Option Registers)) → StandsFor old.present w → w.banks ≡ before
    → IsStepped e old new before banks → IsNoTakingOf e s → ends_at_rx old.present.plan s ≡ true → (at new.present s).taken ≡ (at old.present s).taken
taken-stays w e s old new before banks stands slots step other rx =
    ap (λ (q : Present). (at q s).taken) step.present ∙ (grows-at w e s old new before banks stands slots step other rx).taken_now

pub plain-taken : (w : State) (e : Event) (s : ℕ) (old new : NetSeen) (before banks : List (Option Registers)) → StandsFor old.present w → w.banks ≡ before
    → IsStepped e old new before banks → IsPlain e → ends_at_rx old.present.plan s ≡ true → (at new.present s).taken ≡ (at old.present s).taken
plain-taken w e s old new before banks stands slots step plain rx = taken-stays w e s old new before banks stands slots step (no-taking e s plain) rx

-- what stays of a lane whose stream gets more
drained-with : (p q : Present) (w v : State) (s : ℕ) (old tx : PutSide) → IsDrained p w s old → q.plan ≡ p.plan → length q.streams ≡ length p.streams
    → tx.lane ≡ old.lane → tx.put ++ (at q s).waiting ≡ (stream_at v s).given → (at q s).taken ≤ tx.taken → tx.taken ≤ length tx.put
    → IsDrained q v s tx
drained-with p q w v s old tx drained plan streams lane given known sound = record {
  there = let lt = drained.there in omega (arith, lt, streams);
  rx = ap (λ (r : RunPlan). ends_at_rx r s) plan ∙ drained.rx;
  plan = ap (λ (l : LaneId). l.plan) lane ∙ drained.plan;
  room = ap (λ (l : LaneId). l.room) lane ∙ drained.room ∙ ap (λ (r : RunPlan). (plan_at r s).flow.cap_packets) (sym plan);
  given = given;
  known = known;
  sound = sound;
}

drained-grown : (w : State) (e : Event) (s : ℕ) (tx : PutSide) (old new : NetSeen) (before banks : List (Option Registers))
    → StandsFor old.present w → w.banks ≡ before → IsStepped e old new before banks → IsNoTakingOf e s
    → IsDrained old.present w s tx → IsDrained new.present (after w e) s tx
drained-grown w e s tx old new before banks stands slots step other drained =
    drained-with old.present new.present w (after w e) s tx tx drained (plan-stays e old new before banks step) (streams-stay e old new before banks step) refl
    (ap (λ (q : Present). tx.put ++ (at q s).waiting) step.present
    ∙ ap (λ (ps : List Packet). tx.put ++ ps) grows.waiting
    ∙ sym (append_assoc tx.put (at old.present s).waiting grows.more)
    ∙ ap (λ (ps : List Packet). ps ++ grows.more) drained.given
    ∙ sym grows.given)
    (let same = taken-stays w e s old new before banks stands slots step other drained.rx in let known = drained.known in omega (arith, same, known))
    drained.sound
  where
    grows : Grows (record { present = old.present; banks = before }) w e s
    grows = grows-at w e s old new before banks stands slots step other drained.rx

pub drained-plain : (w : State) (e : Event) (s : ℕ) (tx : PutSide) (old new : NetSeen) (before banks : List (Option Registers))
    → StandsFor old.present w → w.banks ≡ before → IsStepped e old new before banks → IsPlain e
    → IsDrained old.present w s tx → IsDrained new.present (after w e) s tx
drained-plain w e s tx old new before banks stands slots step plain drained =
    drained-grown w e s tx old new before banks stands slots step (no-taking e s plain) drained

-- ---- a taking

pub drained-elsewhere : (w : State) (t n s : ℕ) (tx : PutSide) (old new : NetSeen) (before banks : List (Option Registers))
    → StandsFor old.present w → w.banks ≡ before → IsStepped (event.Seen t n) old new before banks → (t ≡ s → ⊥)
    → IsDrained old.present w s tx → IsDrained new.present (after w (event.Seen t n)) s tx
drained-elsewhere w t n s tx old new before banks stands slots step other drained =
    drained-grown w (event.Seen t n) s tx old new before banks stands slots step other drained

takes-at : (w : State) (s n : ℕ) (old new : NetSeen) (before banks : List (Option Registers)) → StandsFor old.present w → w.banks ≡ before
    → IsStepped (event.Seen s n) old new before banks → TakesTo (record { present = old.present; banks = before }) w s n
takes-at w s n old new before banks stands slots step =
    seen_takes (record { present = old.present; banks = before }) w s n (step-held w (event.Seen s n) old new before banks stands slots step)
    (step-enabled w (event.Seen s n) old new before banks stands step)

-- the machine counts taken what the fabric's end knows to be
pub seen-taken : (w : State) (s n : ℕ) (old new : NetSeen) (before banks : List (Option Registers)) → StandsFor old.present w → w.banks ≡ before
    → IsStepped (event.Seen s n) old new before banks → (at new.present s).taken ≡ n
seen-taken w s n old new before banks stands slots step =
    ap (λ (q : Present). (at q s).taken) step.present ∙ (takes-at w s n old new before banks stands slots step).taken_now

pub drained-seen : (w : State) (s : ℕ) (tx more : PutSide) (old new : NetSeen) (before banks : List (Option Registers))
    → StandsFor old.present w → w.banks ≡ before → IsStepped (event.Seen s more.taken) old new before banks
    → more.lane ≡ tx.lane → more.put ≡ tx.put → more.taken ≤ length more.put
    → IsDrained old.present w s tx → IsDrained new.present (after w (event.Seen s more.taken)) s more
drained-seen w s tx more old new before banks stands slots step lane put sound drained =
    drained-with old.present new.present w (after w e) s tx more drained (plan-stays e old new before banks step) (streams-stay e old new before banks step) lane
    (ap (λ (q : Present). more.put ++ (at q s).waiting) step.present
    ∙ ap (λ (ps : List Packet). more.put ++ ps) (takes.waiting s)
    ∙ ap (λ (ps : List Packet). ps ++ (at old.present s).waiting) put
    ∙ drained.given
    ∙ sym (takes.given s))
    (let same = seen-taken w s more.taken old new before banks stands slots step in omega (arith, same))
    sound
  where
    e : Event
    e = event.Seen s more.taken

    takes : TakesTo (record { present = old.present; banks = before }) w s more.taken
    takes = takes-at w s more.taken old new before banks stands slots step

-- ---- where the Rx can't take

both-true : (a b : Bool) → a ≡ true → b ≡ true → (a && b) ≡ true
both-true true b first second = second
both-true false b first second = first

seen-doable : (p : Present) (s n : ℕ) → ends_at_rx p.plan s ≡ true → (at p s).taken < n → n ≤ (at p s).given → n + length (at p s).waiting ≤ (at p s).given
    → doable_now p (event.Seen s n) ≡ true
unfolding doable_now may
seen-doable p s n rx more given handed =
    both-true (enabled_now p (event.Seen s n)) (is_handed p s n)
    (both-true (ends_at_rx p.plan s) (can_see (front_at (front_now p) s) n) rx
    (ap (λ (st : StreamFront). can_see st n) (front_of_stream p s)
    ∙ both-true (nat_lt (at p s).taken n) (nat_le n (at p s).given) (lt-ltb (at p s).taken n more) (le-leb n (at p s).given given)))
    (le-leb (n + length (at p s).waiting) (at p s).given handed)

-- where the Rx of the stream can't take, the machine counts taken what the fabric's end knows to be
pub unseen-taken : (p : Present) (w : State) (s : ℕ) (tx more : PutSide) → StandsFor p w → IsDrained p w s tx
    → more.put ≡ tx.put → tx.taken ≤ more.taken → more.taken ≤ length more.put → doable_now p (event.Seen s more.taken) ≡ false
    → (at p s).taken ≡ more.taken
unseen-taken p w s tx more stands drained put rises sound not = by (cases_lt (at p s).taken more.taken)
  where
    by : ((at p s).taken < more.taken) ⊎ (more.taken ≤ (at p s).taken) → (at p s).taken ≡ more.taken
    by (inl lt) =
        let count = drained-count p w s tx stands drained in
        let same = ap (λ (ps : List Packet). length ps) put in
        absurd (false≢true (sym not ∙ seen-doable p s more.taken drained.rx lt (omega (arith, count, same, sound)) (omega (arith, count, same, sound))))
    by (inr le) = let known = drained.known in omega (arith, le, known, rises)

-- a look that lets nothing happen
pub drained-looked : (p : Present) (w : State) (s : ℕ) (tx more : PutSide) → IsDrained p w s tx → more.lane ≡ tx.lane → more.put ≡ tx.put
    → tx.taken ≤ more.taken → more.taken ≤ length more.put → IsDrained p w s more
drained-looked p w s tx more drained lane put rises sound =
    drained-with p p w w s tx more drained refl refl lane (ap (λ (ps : List Packet). ps ++ (at p s).waiting) put ∙ drained.given)
    (let known = drained.known in omega (arith, known, rises)) sound

-- ---- handing over

pub drained-handed : (p : Present) (w : State) (s : ℕ) (tx more : PutSide) → IsDrained p w s tx → more.lane ≡ tx.lane → more.taken ≡ tx.taken
    → more.put ≡ tx.put ++ (at p s).waiting → IsDrained (handing s [] p) w s more
drained-handed p w s tx more drained lane taken put =
    drained-with p (handing s [] p) w w s tx more drained refl (as-many p s (with_waiting [])) lane
    (ap (λ (st : StreamNow). more.put ++ st.waiting) (at-same p s (with_waiting []) drained.there) ∙ append-nil more.put ∙ put ∙ drained.given)
    (let same = ap (λ (st : StreamNow). st.taken) (at-same p s (with_waiting []) drained.there) in let known = drained.known in omega (arith, same, known, taken))
    (let sum = length-append tx.put (at p s).waiting in let len = ap (λ (ps : List Packet). length ps) put in let sound = drained.sound in omega (arith, sum, len, sound, taken))

-- another stream's packets are handed over
pub drained-beside : (p : Present) (w : State) (s t : ℕ) (tx : PutSide) → (s ≡ t → ⊥) → IsDrained p w s tx → IsDrained (handing t [] p) w s tx
drained-beside p w s t tx other drained =
    drained-with p (handing t [] p) w w s tx tx drained refl (as-many p t (with_waiting [])) refl
    (ap (λ (st : StreamNow). tx.put ++ st.waiting) (at-other p t s (with_waiting []) other) ∙ drained.given)
    (let same = ap (λ (st : StreamNow). st.taken) (at-other p t s (with_waiting []) other) in let known = drained.known in omega (arith, same, known))
    drained.sound

-- packets are offered
pub drained-offered : (p q : Present) (w : State) (s : ℕ) (tx : PutSide) → q.plan ≡ p.plan → length q.streams ≡ length p.streams
    → (at q s).waiting ≡ (at p s).waiting → (at q s).taken ≡ (at p s).taken → IsDrained p w s tx → IsDrained q w s tx
drained-offered p q w s tx plan streams waiting taken drained =
    drained-with p q w w s tx tx drained plan streams refl (ap (λ (ps : List Packet). tx.put ++ ps) waiting ∙ drained.given)
    (let known = drained.known in omega (arith, taken, known)) drained.sound
