-- After a round in which nobody moved no event is enabled.
use Rattle.std.proofs.Common.{◌≡◌, ℕ, ◌+◌, ◌<◌, ◌≤◌, ◌⊎◌, inl, inr, Bool, true, false, List, [], ◌∷◌, length, min, refl, sym, ap, subst, arith, ◌∙◌}
use Rattle.std.specs.Prelude.{◌&&◌, nat_le, nat_lt, slice_get, if◌then◌else◌}
use Rattle.std.proofs.lemmas.Bool.{cases_lt, false≢true, le-ltb, lt-leb, lt-ltb}
use Rattle.std.proofs.lemmas.List.{get_or_past}
use Rattle.block_library.specs.Blocks.{inputs}
use Rattle.block_library.specs.declared.kind.BlockKind.{BlockKind}
use Rattle.block_library.specs.declared.kind.BlockKind.TheVariants.{Tx, Rx, Fifo, Split, Keep, Repeat, Replay, Switch, Sink}
use Rattle.net_topology.specs.declared.plan.Plan.{Plan}
use Rattle.net_machine.specs.declared.plan.BlockPlan.{BlockPlan}
use Rattle.net_flows.specs.Lasting.{IsSound}
use Rattle.chdr_packets.specs.declared.packet.Packet.{Packet}
use Rattle.credit_lane.specs.Sides.{PutSide, TakeSide}
use Rattle.stream_endpoint.specs.declared.flow.Flow.{Flow}
use Rattle.net_machine.specs.declared.event.Event.{Event}
use Rattle.net_machine.specs.declared.event.Event.TheVariants as event
use Rattle.net_machine.specs.declared.plan.RunPlan.{RunPlan}
use Rattle.net_machine.specs.Blocks.{has_packet}
use Rattle.net_machine.specs.Choice.{enabled_list}
use Rattle.net_machine.specs.Conditions.{can_see, can_send, enabled, ends_at_rx, may}
use Rattle.net_machine.specs.Front.{StreamFront, front, front_at}
use Rattle.net_machine.specs.Plans.{block_at, no_block, plan_at}
use Rattle.net_machine.specs.Laws.{HasFewInputs, OnlyTakes}
use Rattle.net_machine.specs.Moves.{IsStill}
use Rattle.net_machine.specs.State.{State, stream_at}
use Rattle.net_machine.proofs.Laws.{fronts, nothing_is_chosen}
use Rattle.net_present.specs.Kept.{idle_now}
use Rattle.net_present.specs.Onward.{enabled_now}
use Rattle.net_present.specs.Present.{Present, StreamNow, front_now, front_now_of}
use Rattle.net_present.proofs.Laws.{fronts_agree, present_tells}
use Rattle.fabric_events.specs.Choosing.{doable_list, doable_now, is_offered}
use Rattle.fabric_events.proofs.Laws.{front_of_stream}
use Rattle.fabric_lists.specs.Opened.{is_tx_stream}
use Rattle.fabric_net.specs.Offering.{AreSupplied, IsSupplied}
use Rattle.fabric_net.specs.Standing.{StandsFor}
use Rattle.fabric_parts.specs.Ready.{most_offered}
use Rattle.stream_rounds.specs.Between.{IsFed, makes_of}
use Rattle.stream_rounds.specs.Presents.{at}
use Rattle.stream_rounds.proofs.Feeding.{sent-is}
use Rattle.stream_rounds.proofs.Plainly.{IsPlain, listing-agrees}

-- ---- no block has more inputs than two

kind-few : (kind : BlockKind) → inputs kind ≤ 2
kind-few Tx = omega arith
kind-few Rx = omega arith
kind-few Fifo = omega arith
kind-few Split = omega arith
kind-few (Keep n) = omega arith
kind-few (Repeat n) = omega arith
kind-few (Replay n) = omega arith
kind-few (Switch n) = omega arith
kind-few Sink = omega arith

pub few-inputs : (tree : Plan) (plan : RunPlan) → IsSound tree plan → HasFewInputs plan
few-inputs tree plan sound b = by (cases_lt b (length plan.blocks))
  where
    by : (b < length plan.blocks) ⊎ (length plan.blocks ≤ b) → length (block_at plan b).ins ≤ 2
    by (inl lt) = subst (λ n. n ≤ 2) (sym (sound.fits.blocks b lt).inputs) (kind-few (block_at plan b).kind)
    by (inr past) = subst (λ (block : BlockPlan). length block.ins ≤ 2) (sym (get_or_past plan.blocks b no_block past)) (omega arith)

-- ---- each Tx stream has something offered, or nothing ready

has-some : (ps : List Packet) → has_packet ps ≡ true → 0 < length ps
has-some [] is = absurd (false≢true is)
has-some (p ∷ ps) is = omega arith

-- as many packets are offered as may be
pub supplied-full : (p : Present) (s : ℕ) (rx : TakeSide) → IsFed p s rx → (at p s).sent + most_offered ≤ length rx.got → IsSupplied p s
supplied-full p s rx fed full tx some = let many = fed.many in omega (arith, many, full)

-- all that the Tx makes was taken from its lane
pub supplied-all : (p : Present) (w : State) (s : ℕ) (rx : TakeSide) (tx : PutSide) → StandsFor p w → IsFed p s rx
    → length tx.put ≤ length rx.got → tx.lane.room ≡ most_offered → length rx.got ≤ tx.taken
    → length tx.put ≡ min (makes_of p.plan s).packets (tx.lane.room + tx.taken) → IsSupplied p s
supplied-all p w s rx tx stands fed put room taken full is some =
    let many = fed.many in
    let all = sent-is p w s stands fed.there fed.tx in
    let pos = has-some (at p s).ready some in
    omega (arith, many, all, pos, put, room, taken, full)

-- a stream that isn't there has nothing ready
pub supplied-each : (p : Present) → ((s : ℕ) → s < length p.streams → is_tx_stream p.plan s ≡ true → IsSupplied p s) → AreSupplied p
supplied-each p each s tx some = by (cases_lt s (length p.streams))
  where
    by : (s < length p.streams) ⊎ (length p.streams ≤ s) → 0 < (at p s).offered
    by (inl lt) = each s lt tx tx some
    by (inr past) = absurd (false≢true (subst (λ (st : StreamNow). has_packet st.ready ≡ true) (get_or_past p.streams s idle_now past) some))

-- ---- then what is enabled can happen

both-false : (a b : Bool) → a ≡ false → (a && b) ≡ false
both-false true b is = absurd (false≢true (sym is))
both-false false b is = refl

with-true : (a b : Bool) → (a ≡ true → b ≡ true) → a ≡ (a && b)
with-true true b is = sym (is refl)
with-true false b is = refl

both-first : (a b : Bool) → (a && b) ≡ true → a ≡ true
both-first true b both = refl
both-first false b both = both

sending : (flow : Flow) (st : StreamFront) (ready : List Packet) → can_send flow st ready ≡ true → has_packet ready ≡ true
sending flow st [] can = can
sending flow st (p ∷ ps) can = refl

enter-some : (p : Present) (s : ℕ) → enabled_now p (event.Enter s) ≡ true → has_packet (at p s).ready ≡ true
unfolding may
enter-some p s can =
    sending (plan_at p.plan s).flow (front_now_of (at p s)) (at p s).ready
    (subst (λ (st : StreamFront). can_send (plan_at p.plan s).flow st st.ready ≡ true) (front_of_stream p s)
    (both-first _ _ can))

offered-by : (b : Bool) (n : ℕ) → (b ≡ true → 0 < n) → (if b then nat_lt 0 n else true) ≡ true
offered-by true n pos = lt-ltb 0 n (pos refl)
offered-by false n pos = refl

same-tests : (p : Present) (w : State) → StandsFor p w → AreSupplied p → (e : Event) → IsPlain e → enabled w e ≡ doable_now p e
unfolding doable_now
same-tests p w stands supplied (event.Enter s) plain =
    sym (present_tells p w (event.Enter s) stands.now)
    ∙ with-true (enabled_now p (event.Enter s)) (is_offered p s)
    (λ can. offered-by (is_tx_stream p.plan s) (at p s).offered (λ tx. supplied s tx (enter-some p s can)))
same-tests p w stands supplied (event.Command s op) plain = sym (present_tells p w (event.Command s op) stands.now)
same-tests p w stands supplied (event.Report s) plain = sym (present_tells p w (event.Report s) stands.now)
same-tests p w stands supplied (event.Seen s n) plain = absurd (plain tt)
same-tests p w stands supplied (event.Feed b i) plain = sym (present_tells p w (event.Feed b i) stands.now)
same-tests p w stands supplied (event.Ask x) plain = sym (present_tells p w (event.Ask x) stands.now)
same-tests p w stands supplied (event.Reply x) plain = sym (present_tells p w (event.Reply x) stands.now)
same-tests p w stands supplied (event.Lose q) plain = sym (present_tells p w (event.Lose q) stands.now)
same-tests p w stands supplied (event.Hop q) plain = sym (present_tells p w (event.Hop q) stands.now)

none-enabled : (p : Present) (w : State) → StandsFor p w → AreSupplied p → doable_list p ≡ [] → enabled_list w ≡ []
unfolding enabled_list doable_list
none-enabled p w stands supplied none =
    listing-agrees (enabled w) (doable_now p) (front w) (front_now p) (same-tests p w stands supplied) (sym (fronts_agree p w stands.now)) ∙ none

-- where none but a taking can happen, none but a taking is enabled
pub only-takes : (p : Present) (w : State) → HasFewInputs w.plan → StandsFor p w → AreSupplied p → doable_list p ≡ [] → OnlyTakes w
only-takes p w few stands supplied none =
    (nothing_is_chosen 0 w few).0 (ap (λ (es : List Event). slice_get es 0) (none-enabled p w stands supplied none))

-- ---- where all that was given is taken, no taking is enabled either

second-false : (a : Bool) → (a && false) ≡ false
second-false true = refl
second-false false = refl

unseen : (taken given n : ℕ) → given ≤ taken → (nat_lt taken n && nat_le n given) ≡ false
unseen taken given n all = by (cases_lt taken n)
  where
    by : (taken < n) ⊎ (n ≤ taken) → (nat_lt taken n && nat_le n given) ≡ false
    by (inl lt) = ap (λ (b : Bool). nat_lt taken n && b) (lt-leb n given (omega (arith, lt, all))) ∙ second-false (nat_lt taken n)
    by (inr le) = both-false (nat_lt taken n) (nat_le n given) (le-ltb taken n le)

seen-false : (w : State) (s n : ℕ) → (b : Bool) → ends_at_rx w.plan s ≡ b → (b ≡ true → length (stream_at w s).given ≤ (stream_at w s).taken)
    → (b && can_see (front_at (front w) s) n) ≡ false
seen-false w s n true is all =
    ap (λ (st : StreamFront). can_see st n) (fronts.stream w s) ∙ unseen (stream_at w s).taken (length (stream_at w s).given) n (all refl)
seen-false w s n false is all = refl

pub is-still : (w : State) → OnlyTakes w → ((s : ℕ) → ends_at_rx w.plan s ≡ true → length (stream_at w s).given ≤ (stream_at w s).taken) → IsStill w
unfolding may
is-still w only all (event.Enter s) = only (event.Enter s) (λ t. t)
is-still w only all (event.Command s op) = only (event.Command s op) (λ t. t)
is-still w only all (event.Report s) = only (event.Report s) (λ t. t)
is-still w only all (event.Seen s n) = seen-false w s n (ends_at_rx w.plan s) refl (all s)
is-still w only all (event.Feed b i) = only (event.Feed b i) (λ t. t)
is-still w only all (event.Ask x) = only (event.Ask x) (λ t. t)
is-still w only all (event.Reply x) = only (event.Reply x) (λ t. t)
is-still w only all (event.Lose q) = only (event.Lose q) (λ t. t)
is-still w only all (event.Hop q) = only (event.Hop q) (λ t. t)
