-- A Feed keeps what holds of a network's streams: one packet is taken, and what the block gives is made.
use Rattle.std.proofs.Common.{◌≡◌, ℕ, zero, suc, ◌+◌, ◌<◌, ◌≤◌, inl, inr, Bool, true, false, IsTrue, List, [], ◌∷◌, length, refl, sym, ◌∙◌, ap, subst, arith, if◌then◌else◌}
use Rattle.std.specs.Prelude.{Option, None, Some, ◌==◌, ◌&&◌, not, nat_lt, slice_get}
use Rattle.std.specs.List.{All, list_all}
use Rattle.std.specs.Option.{option_map_or}
use Rattle.std.proofs.lemmas.Bool.{cases_Bool, cases_lt, eqb-true, false≢true}
use Rattle.std.proofs.lemmas.Bool.Decides.{nat_tests}
use Rattle.std.proofs.lemmas.List.{get_or_past, length-set}
use Rattle.std.proofs.lemmas.List.Elements.{All-append, All-get_or, All-weaker}
use Rattle.std.proofs.lemmas.Option.{get_or_from_slice_get, slice_get-get_or}
use Rattle.rf_base.proofs.Places.{one-set}
use Rattle.block_library.specs.Blocks.{Lists}
use Rattle.block_library.specs.Memory.{gives}
use Rattle.chdr_packets.specs.Length.{wire_of}
use Rattle.chdr_packets.specs.declared.packet.Body.TheVariants as body
use Rattle.chdr_packets.specs.declared.packet.Packet.{Packet}
use Rattle.chdr_words.specs.declared.epid.Epid.{Epid}
use Rattle.stream_endpoint.specs.Counts.{is_none}
use Rattle.stream_endpoint.specs.Sender.{is_running}
use Rattle.net_topology.specs.declared.plan.Plan.{Plan}
use Rattle.net_machine.specs.declared.event.Event.TheVariants as event
use Rattle.net_machine.specs.declared.plan.BlockPlan.{BlockPlan}
use Rattle.net_machine.specs.declared.plan.RunPlan.{RunPlan}
use Rattle.net_machine.specs.Blocks.{drained_by, has_packet, is_clear, is_closed, is_finished, kept_at}
use Rattle.net_machine.specs.Conditions.{can_feed, enabled, has_untaken, may}
use Rattle.net_machine.specs.Effects.{after, feeds, feeds_from, gives_out, on_any_stream, on_stream}
use Rattle.net_machine.specs.Front.{Front, StreamFront, front, front_at}
use Rattle.net_machine.specs.Passing.{message}
use Rattle.net_machine.specs.Plans.{block_at, is_rx, is_tx, no_block, no_epid, plan_at, producer_of, stream_from, stream_into, stream_out_of, stream_to}
use Rattle.net_machine.specs.State.{State, Stream, idle, stream_at}
use Rattle.net_machine.specs.Streams.{readies, taken_to}
use Rattle.net_machine.proofs.Laws.{fronts}
use Rattle.net_ways.proofs.Laws.{streams_unseen}
use Rattle.net_ways.specs.Ways.{HasQueues}
use Rattle.net_streams.proofs.Laws.{making_acts, taking_acts}
use Rattle.net_streams.specs.Acting.{Acts}
use Rattle.net_streams.specs.Shows.{Shows}
use Rattle.net_flows.specs.Flows.{IsSteady}
use Rattle.net_flows.specs.Forms.{HasForm, IsPacketOn}
use Rattle.net_flows.specs.Lasting.{IsSound}
use Rattle.net_flows.proofs.Closing.{both, joined}
use Rattle.net_flows.proofs.Fitting.{GivesForm, IsOfBlock, all-fit, gives-form, into-form, on-producer}
use Rattle.net_flows.proofs.Following.{FlowsBy, flows-on, none-flows, one-flows}
use Rattle.net_flows.proofs.Keeping.{KeepsForm, Steps, clear_in, kept-on, kept-same}
use Rattle.net_flows.proofs.Ports.{IsInto, IsOut, begins-at, into-of, no-tx, out-of}
use Rattle.net_flows.proofs.Telling.{telling-any}

-- ---- packets become ready on a stream, if there is one

any-plan : (o : Option ℕ) (next : Stream → Stream) (w : State) → (on_any_stream o next w).plan ≡ w.plan
any-plan None next w = refl
any-plan (Some t) next w = refl

any-length : (o : Option ℕ) (next : Stream → Stream) (w : State) → length (on_any_stream o next w).streams ≡ length w.streams
any-length None next w = refl
any-length (Some t) next w = length-set w.streams t (next (stream_at w t))

any-queues : (o : Option ℕ) (next : Stream → Stream) (w : State) → HasQueues w → HasQueues (on_any_stream o next w)
any-queues None next w has = has
any-queues (Some t) next w has = record { tree = has.tree; queues = has.queues }

-- what is made for the streams of a plan
abbrev IsMade : RunPlan → (ℕ → Bool) → Option ℕ → List Packet → Type 0
IsMade plan closed o packets = (t : ℕ) → o ≡ Some t → (closed t ≡ false) × All (λ p. wire_of p ≤ (plan_at plan t).flow.cap_bytes) packets

made-flows : (closed : ℕ → Bool) (w : State) (o : Option ℕ) (packets : List Packet) → HasQueues w → IsMade w.plan closed o packets → FlowsBy closed w (on_any_stream o (readies packets) w)
made-flows closed w None packets has made = none-flows closed w w (λ s there. record { plan = refl; tree = refl; stream = refl; ahead = refl; back = refl })
made-flows closed w (Some t) packets has made =
    let fits = made t refl in
    one-flows closed w (on_stream t (readies packets) w) t (λ s there other. streams_unseen w t s (readies packets) other)
    (λ there st run shows. subst (λ (c : Bool). Acts w (on_stream t (readies packets) w) t c st) (sym fits.0)
    (making_acts w t st packets (record { there = there; queues = has; shows = subst (λ (c : Bool). Shows w t c st) fits.0 shows }) fits.1))

made-forms : (plan : RunPlan) (w : State) (o : Option ℕ) (packets : List Packet) → ((t : ℕ) → o ≡ Some t → All (IsPacketOn plan t) packets) → (s : ℕ) → HasForm plan s (stream_at w s) →
    HasForm plan s (stream_at (on_any_stream o (readies packets) w) s)
made-forms plan w None packets form s = λ h. h
made-forms plan w (Some t) packets form s =
    one-set {B = Stream} (λ u new old. HasForm plan u old → HasForm plan u new) w.streams w.streams idle idle (readies packets (stream_at w t)) t (λ u h. h)
    (λ h. record { ready = All-append (IsPacketOn plan t) (stream_at w t).ready packets h.ready (form t refl); given = h.given }) s

-- another stream has the same ready
made-elsewhere : (w : State) (o : Option ℕ) (packets : List Packet) (s : ℕ) → (o ≡ Some s → ⊥) → stream_at (on_any_stream o (readies packets) w) s ≡ stream_at w s
made-elsewhere w None packets s other = refl
made-elsewhere w (Some t) packets s other = (streams_unseen w t s (readies packets) (λ e. other (ap Some (sym e)))).stream

-- ---- a block with a packet that isn't taken isn't finished

all-at : {X : Type 0} (test : X → Bool) (xs : List X) (i : ℕ) (x : X) → slice_get xs i ≡ Some x → list_all test xs ≡ true → test x ≡ true
all-at test [] i x at h = cc
all-at test (y ∷ ys) zero x at h = let same : y ≡ x = cc in subst (λ z. test z ≡ true) same (both (test y) (list_all test ys) h).0
all-at test (y ∷ ys) (suc i) x at h = all-at test ys i x at (both (test y) (list_all test ys) h).1

drained-took : (closed : Bool) (t : StreamFront) → drained_by closed t ≡ true → t.taken ≡ t.given
drained-took closed t h =
    let a = both closed (not (has_packet t.ready) && (is_running t.state && (is_none t.outstanding && (t.taken == t.given)))) h in
    let b = both (not (has_packet t.ready)) (is_running t.state && (is_none t.outstanding && (t.taken == t.given))) a.1 in
    let c = both (is_running t.state) (is_none t.outstanding && (t.taken == t.given)) b.1 in
    eqb-true t.taken t.given (both (is_none t.outstanding) (t.taken == t.given) c.1).1

never-finished : (k : ℕ) (f : Front) (b i s : ℕ) → IsInto f.plan b i s → is_tx (block_at f.plan b).kind ≡ false → (front_at f s).taken < (front_at f s).given → is_finished k f b ≡ true → ⊥
never-finished zero f b i s into not_tx untaken h = cc
never-finished (suc k) f b i s into not_tx untaken h =
    let block = block_at f.plan b in
    let test : Epid → Bool = λ epid. option_map_or (λ u. drained_by (option_map_or (is_finished k f) (producer_of f.plan u) false) (front_at f u)) (stream_to f.plan epid) false in
    let all : list_all test block.ins ≡ true = subst (λ (t : Bool). (if t then list_all (is_clear f) block.outs else list_all test block.ins) ≡ true) not_tx h in
    let here : test into.epid ≡ true = all-at test block.ins i into.epid into.port all in
    let drained : drained_by (option_map_or (is_finished k f) (producer_of f.plan s) false) (front_at f s) ≡ true =
    subst (λ (o : Option ℕ). option_map_or (λ u. drained_by (option_map_or (is_finished k f) (producer_of f.plan u) false) (front_at f u)) o false ≡ true) into.found here in
    let took = drained-took (option_map_or (is_finished k f) (producer_of f.plan s) false) (front_at f s) drained in
    omega (arith, took, untaken)

not-closed : (f : Front) (b i s j t : ℕ) → IsInto f.plan b i s → is_tx (block_at f.plan b).kind ≡ false → (front_at f s).taken < (front_at f s).given → IsOut f.plan b j t → is_closed f t ≡ false
not-closed f b i s j t into not_tx untaken out =
    subst (λ (o : Option ℕ). option_map_or (is_finished (length f.plan.blocks) f) o false ≡ false) (sym out.producer)
    (elim (cases_Bool (is_finished (length f.plan.blocks) f b)) [
      | inl finished ↦ absurd (never-finished (length f.plan.blocks) f b i s into not_tx untaken finished)
      | inr unfinished ↦ unfinished
    ])

-- ---- what a Tx used up stays used up

all-at-more : {X : Type 0} (p q : X → Bool) (xs : List X) → ((k : ℕ) (x : X) → slice_get xs k ≡ Some x → IsTrue (p x) → IsTrue (q x)) → IsTrue (list_all p xs) → IsTrue (list_all q xs)
all-at-more p q [] more h = refl
all-at-more p q (x ∷ xs) more h =
    let parts = both (p x) (list_all p xs) h in
    joined (q x) (list_all q xs) (more zero x refl parts.0) (all-at-more p q xs (λ k. more (suc k)) parts.1)

-- a stream that begins at a Tx doesn't begin at a block that isn't one
not-there : (tree : Plan) (plan : RunPlan) (a b k j u : ℕ) (epid : Epid) → IsSound tree plan → is_tx (block_at plan a).kind ≡ true → is_tx (block_at plan b).kind ≡ false →
    slice_get (block_at plan a).outs k ≡ Some epid → stream_from plan epid ≡ Some u → IsOut plan b j u → ⊥
not-there tree plan a b k j u epid sound tx not_tx port found out =
    let same : out.epid ≡ epid = sym (begins-at plan out.epid u out.found).1 ∙ (begins-at plan epid u found).1 in
    let one : a ≡ b = (sound.endpoints_free.1 a b k j epid port (out.port ∙ ap Some same)).0 in
    false≢true (sym not_tx ∙ sym (ap (λ (c : ℕ). is_tx (block_at plan c).kind) one) ∙ tx)

-- ---- a Feed

-- a packet of stream s, at input i of block b, is fed
feed-packet : (w : State) (b i s : ℕ) (p : Packet) → IsSteady w → b < length w.plan.blocks → IsInto w.plan b i s → (stream_at w s).taken < length (stream_at w s).given →
    slice_get (stream_at w s).given (stream_at w s).taken ≡ Some p →
    Steps w (gives_out (block_at w.plan b) (gives (kept_at w (block_at w.plan b)) i p) (on_stream s (taken_to ((stream_at w s).taken + 1)) w))
feed-packet w b i s p steady lt into untaken at = record {
  flows = flows-on closed w w1 w3 refl (length-set w.streams s (next (stream_at w s))) took
      (flows-on closed w1 w2 w3 (any-plan o0 (readies given.first) w1) (any-length o0 (readies given.first) w1)
      (made-flows closed w1 o0 given.first has (λ t is. made 0 given.first form.first t is))
      (made-flows closed w2 o1 given.second (any-queues o0 (readies given.first) w1 has)
      (subst (λ (plan : RunPlan). IsMade plan closed o1 given.second) (sym (any-plan o0 (readies given.first) w1)) (λ t is. made 1 given.second form.second t is))));
  telling = telling-any w.plan o1 (readies given.second) w2 (telling-any w.plan o0 (readies given.first) w1 steady.telling);
  forms = λ u h. made-forms w.plan w2 o1 given.second (λ t is. on_plan 1 given.second form.second t is) u
      (made-forms w.plan w1 o0 given.first (λ t is. on_plan 0 given.first form.first t is) u ((kept u).form h));
  used_up = λ a tx. all-at-more (clear_in w.plan w) (clear_in w.plan w3) (block_at w.plan a).outs
      (λ k epid port. still (stream_from w.plan epid) (λ u found. elsewhere a k epid u tx port found));
}
  where
    block : BlockPlan
    block = block_at w.plan b

    closed : ℕ → Bool
    closed = is_closed (front w)

    next : Stream → Stream
    next = taken_to ((stream_at w s).taken + 1)

    given : Lists
    given = gives (kept_at w block) i p

    o0 : Option ℕ
    o0 = stream_out_of w.plan block 0

    o1 : Option ℕ
    o1 = stream_out_of w.plan block 1

    w1 : State
    w1 = on_stream s next w

    w2 : State
    w2 = on_any_stream o0 (readies given.first) w1

    w3 : State
    w3 = on_any_stream o1 (readies given.second) w2

    has : HasQueues w1
    has = record { tree = steady.queues.tree; queues = steady.queues.queues }

    not_tx : is_tx block.kind ≡ false
    not_tx = no-tx w.tree w.plan b i s steady.plan lt into

    there : s < length w.streams
    there = subst (λ (n : ℕ). s < n) (sym steady.as_many) into.there

    here : IsPacketOn w.plan s p
    here = subst (IsPacketOn w.plan s) (get_or_from_slice_get (stream_at w s).given (stream_at w s).taken p p at)
        (All-get_or (IsPacketOn w.plan s) (stream_at w s).given (stream_at w s).taken p untaken (steady.forms s there).given)

    form : GivesForm w b i p
    form = gives-form w b i p steady.plan lt not_tx steady.as_many steady.forms (into-form w.tree w.plan b i s steady.plan into not_tx p here)

    took : FlowsBy closed w w1
    took = one-flows closed w w1 s (λ t here_t other. streams_unseen w s t next other)
        (λ here_s st run shows. taking_acts w s (closed s) st (record { there = here_s; queues = steady.queues; shows = shows }) untaken)

    on_plan : (j : ℕ) (packets : List Packet) → All (IsOfBlock w.plan b) packets → (t : ℕ) → stream_out_of w.plan block j ≡ Some t → All (IsPacketOn w.plan t) packets
    on_plan j packets each t is =
        let out = out-of w.tree w.plan b j t steady.plan lt is in
        All-weaker (IsOfBlock w.plan b) (IsPacketOn w.plan t) (on-producer w.plan t b out.producer) packets each

    made : (j : ℕ) (packets : List Packet) → All (IsOfBlock w.plan b) packets → (t : ℕ) → stream_out_of w.plan block j ≡ Some t →
        (closed t ≡ false) × All (λ (q : Packet). wire_of q ≤ (plan_at w.plan t).flow.cap_bytes) packets
    made j packets each t is =
        let out = out-of w.tree w.plan b j t steady.plan lt is in
        let few : (front_at (front w) s).taken < (front_at (front w) s).given = subst (λ (f : StreamFront). f.taken < f.given) (sym (fronts.stream w s)) untaken in
        (not-closed (front w) b i s j t into not_tx few out, all-fit w.tree w.plan t steady.plan out.there packets (on_plan j packets each t is))

    kept : (u : ℕ) → KeepsForm w.plan u (stream_at w u) (stream_at w1 u)
    kept = kept-on w s next (kept-same w.plan s (stream_at w s) (next (stream_at w s)) refl refl)

    elsewhere : (a k : ℕ) (epid : Epid) (u : ℕ) → IsTrue (is_tx (block_at w.plan a).kind) → slice_get (block_at w.plan a).outs k ≡ Some epid → stream_from w.plan epid ≡ Some u →
        (o0 ≡ Some u → ⊥) × (o1 ≡ Some u → ⊥)
    elsewhere a k epid u tx port found = (
      λ is. not-there w.tree w.plan a b k 0 u epid steady.plan tx not_tx port found (out-of w.tree w.plan b 0 u steady.plan lt is),
      λ is. not-there w.tree w.plan a b k 1 u epid steady.plan tx not_tx port found (out-of w.tree w.plan b 1 u steady.plan lt is),
    )

    still : (o : Option ℕ) → ((u : ℕ) → o ≡ Some u → (o0 ≡ Some u → ⊥) × (o1 ≡ Some u → ⊥)) →
        IsTrue (option_map_or (λ (u : ℕ). not (has_packet (stream_at w u).ready)) o false) → IsTrue (option_map_or (λ (u : ℕ). not (has_packet (stream_at w3 u).ready)) o false)
    still None other h = cc
    still (Some u) other h =
        let none = other u refl in
        subst (λ (st : Stream). IsTrue (not (has_packet st.ready)))
        (sym (made-elsewhere w2 o1 given.second u none.1 ∙ made-elsewhere w1 o0 given.first u none.0)) ((kept u).clear h)

-- any packet
abbrev some_packet : Packet
some_packet = message 0 no_epid (body.Samples None [])

feed-at : (w : State) (b i s : ℕ) → IsSteady w → b < length w.plan.blocks → stream_into w.plan (block_at w.plan b) i ≡ Some s → (stream_at w s).taken < length (stream_at w s).given →
    Steps w (feeds_from (block_at w.plan b) i s w)
feed-at w b i s steady lt is untaken =
    let at = slice_get-get_or (stream_at w s).given (stream_at w s).taken some_packet untaken in
    subst (λ (o : Option Packet). Steps w (option_map_or (λ (p : Packet). gives_out (block_at w.plan b) (gives (kept_at w (block_at w.plan b)) i p) (on_stream s (taken_to ((stream_at w s).taken + 1)) w)) o w))
    (sym at) (feed-packet w b i s _ steady lt (into-of w.tree w.plan b i s steady.plan lt is) untaken at)

-- ---- its condition

untaken-of : (taken given : ℕ) → IsTrue (nat_lt taken given) → taken < given
untaken-of taken given h = grind (arith, nat_tests)

-- no block that isn't there is fed
never-fed : (f : Front) (i : ℕ) → IsTrue (can_feed f no_block i) → ⊥
never-fed f i h = cc

can-feed : (w : State) (b i : ℕ) → IsTrue (enabled w (event.Feed b i)) → IsTrue (can_feed (front w) (block_at w.plan b) i)
unfolding may
can-feed w b i may_it = may_it

fed-there : (w : State) (b i : ℕ) → IsTrue (can_feed (front w) (block_at w.plan b) i) → b < length w.plan.blocks
fed-there w b i h =
    elim (cases_lt b (length w.plan.blocks)) [
      | inl lt ↦ lt
      | inr past ↦ absurd (never-fed (front w) i (subst (λ (block : BlockPlan). IsTrue (can_feed (front w) block i)) (get_or_past w.plan.blocks b no_block past) h))
    ]

fed-input : (f : Front) (block : BlockPlan) (i : ℕ) → IsTrue (can_feed f block i) → IsTrue (option_map_or (has_untaken f) (stream_into f.plan block i) false)
fed-input f block i h =
    (both (option_map_or (has_untaken f) (stream_into f.plan block i) false) (list_all (is_clear f) block.outs)
    (both (not (is_rx block.kind)) (option_map_or (has_untaken f) (stream_into f.plan block i) false && list_all (is_clear f) block.outs) h).1).0

-- the stream at the input
record HasUntaken (f : Front) (o : Option ℕ) : Type 0 where
  stream : ℕ
  is : o ≡ Some stream
  untaken : IsTrue (has_untaken f stream)

untaken-there : (f : Front) (o : Option ℕ) → IsTrue (option_map_or (has_untaken f) o false) → HasUntaken f o
untaken-there f None h = cc
untaken-there f (Some s) h = record { stream = s; is = refl; untaken = h }

untaken-shown : (w : State) (s : ℕ) → IsTrue (has_untaken (front w) s) → (stream_at w s).taken < length (stream_at w s).given
untaken-shown w s h =
    untaken-of (stream_at w s).taken (length (stream_at w s).given) (subst (λ (t : StreamFront). IsTrue (nat_lt t.taken t.given)) (fronts.stream w s) h)

feed-any : (w : State) (b i : ℕ) → IsSteady w → IsTrue (can_feed (front w) (block_at w.plan b) i) → Steps w (feeds (block_at w.plan b) i w)
feed-any w b i steady h =
    let input = untaken-there (front w) (stream_into w.plan (block_at w.plan b) i) (fed-input (front w) (block_at w.plan b) i h) in
    subst (λ (o : Option ℕ). Steps w (option_map_or (λ (s : ℕ). feeds_from (block_at w.plan b) i s w) o w)) (sym input.is)
    (feed-at w b i input.stream steady (fed-there w b i h) input.is (untaken-shown w input.stream input.untaken))

pub feed-steps : (w : State) (b i : ℕ) → IsSteady w → IsTrue (enabled w (event.Feed b i)) → Steps w (after w (event.Feed b i))
unfolding after
feed-steps w b i steady may_it = feed-any w b i steady (can-feed w b i may_it)
