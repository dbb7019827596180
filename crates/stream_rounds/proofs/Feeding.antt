-- The source lanes: what was taken of them stays as many packets as entered and were offered, whatever happens.
use Rattle.std.proofs.Common.{◌≡◌, ℕ, suc, ◌+◌, ◌<◌, ◌⊎◌, inl, inr, Bool, true, false, List, [], ◌∷◌, length, drop, refl, sym, ap, subst, arith, ◌∙◌, length-append, length-drop}
use Rattle.std.specs.Prelude.{◌&&◌, Option, None, Some, nat_lt, if◌then◌else◌}
use Rattle.std.specs.Option.{option_map_or}
use Rattle.std.proofs.lemmas.Bool.{cases_eq, false≢true, ltb-true}
use Rattle.std.proofs.lemmas.List.{drop-drop}
use Rattle.block_library.specs.Blocks.{Lists}
use Rattle.block_library.specs.Memory.{lists}
use Rattle.block_library.specs.Producer.{produced}
use Rattle.block_library.proofs.Laws.{length-produced}
use Rattle.block_registers.specs.Registers.{Registers}
use Rattle.chdr_packets.specs.declared.packet.Packet.{Packet}
use mathlib.Core.List.{IsPrefix}
use Rattle.credit_lane.specs.Sides.{TakeSide}
use Rattle.credit_lane.specs.declared.plan.LanePlan.TheVariants.{Producer}
use Rattle.net_machine.specs.declared.event.Event.{Event}
use Rattle.net_machine.specs.declared.event.Event.TheVariants as event
use Rattle.net_machine.specs.declared.plan.BlockPlan.{BlockPlan}
use Rattle.net_machine.specs.declared.plan.RunPlan.{RunPlan}
use Rattle.net_machine.specs.declared.plan.StreamPlan.{StreamPlan}
use Rattle.net_machine.specs.Begin.{source_of}
use Rattle.net_machine.specs.Blocks.{fed_to}
use Rattle.net_machine.specs.Effects.{after}
use Rattle.net_machine.specs.Faults.{is_named}
use Rattle.net_machine.specs.Queues.{forward_vc}
use Rattle.net_machine.specs.Streams.{numbered}
use Rattle.stream_endpoint.specs.Sender.{next_number}
use Rattle.net_faults.specs.declared.fault.Fault.TheVariants.{Samples}
use Rattle.net_machine.specs.Plain.{made_for, numbered_from}
use Rattle.net_machine.specs.Plans.{block_at, first_link, is_tx, no_block, no_epid, plan_at, producer_of}
use Rattle.net_machine.specs.Promises.{made_on}
use Rattle.net_machine.specs.State.{State, stream_at}
use Rattle.net_present.specs.Kept.{now_at}
use Rattle.net_present.specs.Onward.{Held, enabled_now, enters_now, enters_over_now, goes_on, on_now}
use Rattle.net_present.specs.Present.{Present, StreamNow}
use Rattle.net_present.specs.StreamSteps.{sends_first_now}
use Rattle.net_growth.specs.Sending.{IsNoEnterOf, KeepsReady}
use Rattle.net_needs.proofs.Laws.{only_enters_send, sizes_stay}
use Rattle.fabric_events.specs.Choosing.{doable_now, is_offered}
use Rattle.fabric_lists.specs.Opened.{is_tx_stream}
use Rattle.fabric_net.specs.NetView.{NetSeen}
use Rattle.fabric_net.specs.Standing.{StandsFor}
use Rattle.stream_rounds.specs.Between.{IsFed, makes_of}
use Rattle.stream_rounds.specs.Presents.{at}
use Rattle.stream_rounds.specs.Steps.{IsStepped}
use Rattle.stream_rounds.proofs.Presents.{at-same}

-- ---- how many packets a Tx stream has sent and has ready

length-numbered : (stream : StreamPlan) (k : ℕ) (ps : List Packet) → length (numbered_from stream k ps) ≡ length ps
length-numbered stream k [] = refl
length-numbered stream k (p ∷ ps) = ap suc (length-numbered stream (k + 1) ps)

made-tx : (block : BlockPlan) (stream : StreamPlan) (fed : Lists) → is_tx block.kind ≡ true → made_for block stream fed ≡ produced (source_of block stream.to)
made-tx block stream fed is = rw is refl

by-producer : (w : State) (stream : StreamPlan) (o : Option ℕ) → option_map_or (λ b. is_tx (block_at w.plan b).kind) o false ≡ true
    → length (option_map_or (λ b. numbered_from stream 0 (made_for (block_at w.plan b) stream (lists (fed_to w (block_at w.plan b) 0) (fed_to w (block_at w.plan b) 1)))) o [])
    ≡ (option_map_or (λ b. source_of (block_at w.plan b) stream.to) o (source_of no_block no_epid)).packets
by-producer w stream None is = absurd (false≢true is)
by-producer w stream (Some b) is =
    length-numbered stream 0 (made_for (block_at w.plan b) stream (lists (fed_to w (block_at w.plan b) 0) (fed_to w (block_at w.plan b) 1)))
    ∙ ap (λ (ps : List Packet). length ps) (made-tx (block_at w.plan b) stream (lists (fed_to w (block_at w.plan b) 0) (fed_to w (block_at w.plan b) 1)) is)
    ∙ length-produced (source_of (block_at w.plan b) stream.to)

-- what was sent and what is ready are all packets of the Tx
pub sent-is : (p : Present) (w : State) (s : ℕ) → StandsFor p w → s < length p.streams → is_tx_stream p.plan s ≡ true
    → (at p s).sent + length (at p s).ready ≡ (makes_of p.plan s).packets
sent-is p w s stands there tx =
    let st = stream_at w s in
    let stream = plan_at w.plan s in
    let is = (stands.now.streams s).is in
    let sent : (at p s).sent ≡ length st.sent = ap (λ (n : StreamNow). n.sent) is in
    let ready : length (at p s).ready ≡ length st.ready = ap (λ (n : StreamNow). length n.ready) is in
    let within : s < length w.streams = subst (λ n. s < n) stands.now.as_many_streams there in
    let made = ap (λ (ps : List Packet). length ps) (stands.lawful.makes s within) in
    let sum = length-append st.sent (numbered_from stream (length st.sent) st.ready) in
    let same = length-numbered stream (length st.sent) st.ready in
    let all : length (made_on w s) ≡ (makes_of w.plan s).packets = by-producer w stream (producer_of w.plan s) (subst (λ (plan : RunPlan). is_tx_stream plan s ≡ true) stands.now.plan tx) in
    let plan : (makes_of w.plan s).packets ≡ (makes_of p.plan s).packets = ap (λ (q : RunPlan). (makes_of q s).packets) (sym stands.now.plan) in
    omega (arith, sent, ready, made, sum, same, all, plan)

-- ---- an event that isn't an Enter of the stream

pub fed-kept : (p q : Present) (s : ℕ) (rx : TakeSide) → IsFed p s rx → q.plan ≡ p.plan → length q.streams ≡ length p.streams
    → (at q s).ready ≡ (at p s).ready → (at q s).offered ≡ (at p s).offered → (at q s).sent ≡ (at p s).sent → IsFed q s rx
fed-kept p q s rx fed plan streams ready offered sent = record {
  there = let lt = fed.there in omega (arith, lt, streams);
  tx = ap (λ (r : RunPlan). is_tx_stream r s) plan ∙ fed.tx;
  plan = subst (λ (r : RunPlan). rx.lane.plan ≡ Producer (makes_of r s)) (sym plan) fed.plan;
  front = subst (λ (r : RunPlan). IsPrefix rx.got (produced (makes_of r s))) (sym plan) fed.front;
  many = let many = fed.many in omega (arith, many, offered, sent);
  ready = ready ∙ fed.ready ∙ ap (λ k. drop k (produced (makes_of p.plan s))) (sym sent)
      ∙ ap (λ (r : RunPlan). drop (at q s).sent (produced (makes_of r s))) (sym plan);
}

fed-other : (w : State) (e : Event) (s : ℕ) (rx : TakeSide) (old new : NetSeen) (before banks : List (Option Registers))
    → StandsFor old.present w → StandsFor new.present (after w e) → IsStepped e old new before banks → IsNoEnterOf e s
    → IsFed old.present s rx → IsFed new.present s rx
fed-other w e s rx old new before banks stands stands_then step other fed =
    fed-kept old.present new.present s rx fed plan streams ready offered sent
  where
    h : Held
    h = record { present = old.present; banks = before }

    plan : new.present.plan ≡ old.present.plan
    plan = ap (λ (q : Present). q.plan) step.present ∙ (sizes_stay e h).plan

    streams : length new.present.streams ≡ length old.present.streams
    streams = ap (λ (q : Present). length q.streams) step.present ∙ (sizes_stay e h).streams

    kept : KeepsReady (now_at h.present.streams s) (now_at (goes_on e h).present.streams s)
    kept = only_enters_send h w e s stands.lawful stands.now fed.tx other

    ready : (at new.present s).ready ≡ (at old.present s).ready
    ready = ap (λ (q : Present). (at q s).ready) step.present ∙ kept.ready

    offered : (at new.present s).offered ≡ (at old.present s).offered
    offered = ap (λ (q : Present). (at q s).offered) step.present ∙ kept.offered

    sent : (at new.present s).sent ≡ (at old.present s).sent
    sent =
        let there : s < length new.present.streams = let lt = fed.there in let n = streams in omega (arith, lt, n) in
        let tx : is_tx_stream new.present.plan s ≡ true = ap (λ (r : RunPlan). is_tx_stream r s) plan ∙ fed.tx in
        let before = sent-is old.present w s stands fed.there fed.tx in
        let left = sent-is new.present (after w e) s stands_then there tx in
        let all = ap (λ (r : RunPlan). (makes_of r s).packets) plan in
        let same = ap (λ (ps : List Packet). length ps) ready in
        omega (arith, before, left, all, same)

-- ---- an Enter of the stream

enters-over-streams : (o : Option ℕ) (vc : ℕ) (marked : Bool) (packet : Packet) (p : Present) → (enters_over_now o vc marked packet p).streams ≡ p.streams
enters-over-streams None vc marked packet p = refl
enters-over-streams (Some d) vc marked packet p = refl

-- the first ready packet of stream s is in its queue
abbrev entering-of : ℕ → Packet → Present → Present
entering-of s x p =
    enters_over_now (first_link p.tree (plan_at p.plan s).from) forward_vc (is_named p.faults (Samples s (at p s).sent))
    (numbered (plan_at p.plan s) (next_number (at p s).sender) x) p

entered-over : (s : ℕ) (rest : List Packet) (x : Packet) (p v : Present) → v.streams ≡ p.streams → s < length p.streams
    → at (on_now s (sends_first_now x rest) v) s ≡ sends_first_now x rest (at p s)
entered-over s rest x p v same there =
    at-same v s (sends_first_now x rest) (subst (λ (sts : List StreamNow). s < length sts) (sym same) there)
    ∙ ap (λ (sts : List StreamNow). sends_first_now x rest (now_at sts s)) same

entered-rest : (s : ℕ) (ready rest : List Packet) (x : Packet) (p : Present) → ready ≡ x ∷ rest → s < length p.streams
    → at (enters_now s ready p) s ≡ sends_first_now x rest (at p s)
entered-rest s ready rest x p is there =
    subst (λ (ps : List Packet). at (enters_now s ps p) s ≡ sends_first_now x rest (at p s)) (sym is)
    (entered-over s rest x p (entering-of s x p) (enters-over-streams (first_link p.tree (plan_at p.plan s).from) forward_vc
    (is_named p.faults (Samples s (at p s).sent)) (numbered (plan_at p.plan s) (next_number (at p s).sender) x) p) there)

entered : (h : Held) (s : ℕ) (rest : List Packet) (x : Packet) → (at h.present s).ready ≡ x ∷ rest → s < length h.present.streams
    → at (goes_on (event.Enter s) h).present s ≡ sends_first_now x rest (at h.present s)
unfolding goes_on
entered h s rest x is there = entered-rest s (at h.present s).ready rest x h.present is there

both-second : (a b : Bool) → (a && b) ≡ true → b ≡ true
both-second true b both = both
both-second false b both = absurd (false≢true both)

enter-offered : (p : Present) (s : ℕ) → is_tx_stream p.plan s ≡ true → doable_now p (event.Enter s) ≡ true → 0 < (at p s).offered
unfolding doable_now
enter-offered p s tx can =
    ltb-true 0 (at p s).offered (sym (ap (λ (b : Bool). if b then nat_lt 0 (at p s).offered else true) tx)
    ∙ both-second (enabled_now p (event.Enter s)) (is_offered p s) can)

fed-enter : (e : Event) (s : ℕ) (rx : TakeSide) (old new : NetSeen) (before banks : List (Option Registers)) → e ≡ event.Enter s
    → IsStepped e old new before banks → IsFed old.present s rx
    → (ready : List Packet) → ready ≡ (at old.present s).ready → IsFed new.present s rx
fed-enter e s rx old new before banks is step fed [] ready =
    let pos = enter-offered old.present s fed.tx (subst (λ (f : Event). doable_now old.present f ≡ true) is step.can) in
    let none = ap (λ (ps : List Packet). length ps) (ready ∙ fed.ready) in
    let left = length-drop (at old.present s).sent (produced (makes_of old.present.plan s)) in
    let front = ap (λ (ps : List Packet). length ps) fed.front.1 in
    let parts = length-append rx.got fed.front.0 in
    let many = fed.many in
    absurd (omega (arith, pos, none, left, front, parts, many))
fed-enter e s rx old new before banks is step fed (x ∷ rest) ready = record {
  there = let lt = fed.there in let n = streams in omega (arith, lt, n);
  tx = ap (λ (r : RunPlan). is_tx_stream r s) plan ∙ fed.tx;
  plan = subst (λ (r : RunPlan). rx.lane.plan ≡ Producer (makes_of r s)) (sym plan) fed.plan;
  front = subst (λ (r : RunPlan). IsPrefix rx.got (produced (makes_of r s))) (sym plan) fed.front;
  many = let many = fed.many in
      let sent = ap (λ (st : StreamNow). st.sent) here in
      let offered = ap (λ (st : StreamNow). st.offered) here in
      let pos = enter-offered old.present s fed.tx (subst (λ (f : Event). doable_now old.present f ≡ true) is step.can) in
      omega (arith, many, sent, offered, pos);
  ready = ap (λ (st : StreamNow). st.ready) here
      ∙ ap (λ (ps : List Packet). drop 1 ps) (ready ∙ fed.ready)
      ∙ drop-drop 1 (at old.present s).sent (produced (makes_of old.present.plan s))
      ∙ ap (λ k. drop k (produced (makes_of old.present.plan s))) (sym (ap (λ (st : StreamNow). st.sent) here))
      ∙ ap (λ (r : RunPlan). drop (at new.present s).sent (produced (makes_of r s))) (sym plan);
}
  where
    h : Held
    h = record { present = old.present; banks = before }

    plan : new.present.plan ≡ old.present.plan
    plan = ap (λ (q : Present). q.plan) step.present ∙ (sizes_stay e h).plan

    streams : length new.present.streams ≡ length old.present.streams
    streams = ap (λ (q : Present). length q.streams) step.present ∙ (sizes_stay e h).streams

    here : at new.present s ≡ sends_first_now x rest (at old.present s)
    here = ap (λ (q : Present). at q s) step.present
        ∙ ap (λ (f : Event). at (goes_on f h).present s) is
        ∙ entered h s rest x (sym ready) fed.there

-- ---- any event

pub fed-stepped : (w : State) (e : Event) (s : ℕ) (rx : TakeSide) (old new : NetSeen) (before banks : List (Option Registers))
    → StandsFor old.present w → StandsFor new.present (after w e) → IsStepped e old new before banks
    → IsFed old.present s rx → IsFed new.present s rx
fed-stepped w (event.Enter t) s rx old new before banks stands stands_then step fed = by (cases_eq t s)
  where
    by : (t ≡ s) ⊎ (t ≡ s → ⊥) → IsFed new.present s rx
    by (inl is) = fed-enter (event.Enter t) s rx old new before banks (ap event.Enter is) step fed (at old.present s).ready refl
    by (inr not) = fed-other w (event.Enter t) s rx old new before banks stands stands_then step not fed
fed-stepped w (event.Command t op) s rx old new before banks stands stands_then step fed = fed-other w (event.Command t op) s rx old new before banks stands stands_then step tt fed
fed-stepped w (event.Report t) s rx old new before banks stands stands_then step fed = fed-other w (event.Report t) s rx old new before banks stands stands_then step tt fed
fed-stepped w (event.Seen t n) s rx old new before banks stands stands_then step fed = fed-other w (event.Seen t n) s rx old new before banks stands stands_then step tt fed
fed-stepped w (event.Feed b i) s rx old new before banks stands stands_then step fed = fed-other w (event.Feed b i) s rx old new before banks stands stands_then step tt fed
fed-stepped w (event.Ask x) s rx old new before banks stands stands_then step fed = fed-other w (event.Ask x) s rx old new before banks stands stands_then step tt fed
fed-stepped w (event.Reply x) s rx old new before banks stands stands_then step fed = fed-other w (event.Reply x) s rx old new before banks stands stands_then step tt fed
fed-stepped w (event.Lose q) s rx old new before banks stands stands_then step fed = fed-other w (event.Lose q) s rx old new before banks stands stands_then step tt fed
fed-stepped w (event.Hop q) s rx old new before banks stands stands_then step fed = fed-other w (event.Hop q) s rx old new before banks stands stands_then step tt fed
