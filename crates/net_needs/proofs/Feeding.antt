-- What a Feed asks of the parts is there.
use Rattle.std.proofs.Common.{◌≡◌, ℕ, zero, suc, ◌+◌, ◌<◌, ◌≤◌, ◌⊎◌, inl, inr, Bool, true, false, IsTrue, List, [], ◌∷◌, ◌++◌, length, drop, get_or, set, refl, sym, ◌∙◌, ap, subst, arith, if◌then◌else◌}
use Rattle.std.specs.Prelude.{Option, None, Some, IsSome, ◌==◌, ◌&&◌, not, nat_lt, slice_get}
use Rattle.std.specs.List.{All, list_all}
use Rattle.std.specs.Option.{option_map_or}
use Rattle.std.proofs.Math.Seq.{drop-append_seam, drop-cons, take-append_seam}
use Rattle.std.proofs.lemmas.Bool.{cases_lt, eqb-true, false≢true}
use Rattle.std.proofs.lemmas.List.{get_or-set_same, get_or_past, length-set}
use Rattle.std.proofs.lemmas.List.Elements.{All-drop, All-get_or, All-take, All-weaker}
use Rattle.std.proofs.lemmas.List.Quantifiers.{position-Some}
use Rattle.std.proofs.lemmas.Option.{none-some, option_and_then_some, same_Some, slice_get_cases}
use Rattle.rf_base.proofs.Places.{one-set}
use Rattle.block_library.specs.Blocks.{IsFeed, Lists, inputs}
use Rattle.block_library.specs.Memory.{Kept, gives, kept_of, lists}
use Rattle.block_library.specs.declared.kind.BlockKind.{BlockKind}
use Rattle.block_library.specs.declared.kind.BlockKind.TheVariants.{Tx, Rx, Fifo, Split, Keep, Repeat, Replay, Switch, Sink}
use Rattle.chdr_packets.specs.Length.{length_of}
use Rattle.chdr_packets.specs.declared.packet.Packet.{Packet}
use Rattle.chdr_words.specs.declared.epid.Epid.{Epid}
use Rattle.net_machine.specs.declared.event.Event.TheVariants.{Feed}
use Rattle.net_machine.specs.declared.plan.BlockPlan.{BlockPlan}
use Rattle.net_machine.specs.declared.plan.RunPlan.{RunPlan}
use Rattle.net_machine.specs.Blocks.{has_packet, is_clear, kept_at}
use Rattle.net_machine.specs.Conditions.{enabled, has_untaken, may}
use Rattle.net_machine.specs.Effects.{after, feeds_from, gives_out, on_any_stream, on_stream}
use Rattle.net_machine.specs.Front.{StreamFront, front, front_at}
use Rattle.net_machine.specs.Moves.{Happens}
use Rattle.net_machine.specs.Plans.{block_at, is_from, is_rx, is_to, is_tx, no_block, no_stream, plan_at, producer_of, stream_from, stream_into, stream_out_of, stream_to}
use Rattle.net_machine.specs.State.{State, Stream, idle, stream_at}
use Rattle.net_machine.specs.Streams.{readies, taken_to}
use Rattle.net_machine.proofs.Laws.{fronts, shape_stays}
use Rattle.net_present.specs.Fits.{ArePlanned}
use Rattle.net_present.specs.Kept.{IsNow, block_now_at, fed_kept, now_at}
use Rattle.net_present.specs.Present.{BlockNow, Present, StreamNow}
use Rattle.net_present.proofs.Laws.{present_tells}
use Rattle.net_flows.specs.Forms.{HasForm, IsPacketOn}
use Rattle.net_lawful.specs.Lawful.{Lawful}
use Rattle.net_lawful.proofs.Laws.{blocks_give, blocks_take, lawful_stays, plans_fit}
use Rattle.net_needs.specs.Feeding.{FeedNeeds, FillNeeds}
use Rattle.net_needs.specs.FeedingLaws.{FeedIsReady}
use Rattle.net_needs.proofs.Hopping.{short-on}
use Rattle.net_needs.proofs.Knowing.{both-first, both-second, lt-from}

-- ---- what became ready on a stream

module _ (P : Packet → Type 0) where
  last-of : (xs ys : List Packet) → All P (xs ++ ys) → All P ys
  last-of xs ys each = subst (All P) (drop-append_seam xs ys) (All-drop P (length xs) (xs ++ ys) each)

  first-of : (xs ys : List Packet) → All P (xs ++ ys) → All P xs
  first-of xs ys each = subst (All P) (take-append_seam xs ys) (All-take P (length xs) (xs ++ ys) each)

  -- what was ready before more became ready
  ready-before : (w : State) (o : Option ℕ) (packets : List Packet) (t : ℕ) → All P (stream_at (on_any_stream o (readies packets) w) t).ready → All P (stream_at w t).ready
  ready-before w None packets t each = each
  ready-before w (Some u) packets t each =
      one-set {B = Stream} (λ k new old. All P new.ready → All P old.ready) w.streams w.streams idle idle (readies packets (stream_at w u)) u (λ k h. h)
      (first-of (stream_at w u).ready packets) t each

  -- what became ready on stream t
  ready-now : (w : State) (o : Option ℕ) (packets : List Packet) (t : ℕ) → o ≡ Some t → t < length w.streams → All P (stream_at (on_any_stream o (readies packets) w) t).ready → All P packets
  ready-now w None packets t is lt each = absurd (none-some t is)
  ready-now w (Some u) packets t is lt each =
      let same : u ≡ t = same_Some u t is in
      let here : get_or (set w.streams u (readies packets (stream_at w u))) u idle ≡ readies packets (stream_at w u) =
      get_or-set_same w.streams u (readies packets (stream_at w u)) idle (subst (λ k. k < length w.streams) (sym same) lt) in
      let at : All P (get_or (set w.streams u (readies packets (stream_at w u))) u idle).ready =
      subst (λ k. All P (get_or (set w.streams u (readies packets (stream_at w u))) k idle).ready) (sym same) each in
      last-of (stream_at w u).ready packets (subst (λ (st : Stream). All P st.ready) here at)

any-length : (o : Option ℕ) (next : Stream → Stream) (w : State) → length (on_any_stream o next w).streams ≡ length w.streams
any-length None next w = refl
any-length (Some t) next w = length-set w.streams t (next (stream_at w t))

-- ---- blocks and their ports

no-input : (kind : BlockKind) (i : ℕ) → i < inputs kind → is_tx kind ≡ false
no-input Tx i lt = absurd (omega (arith, lt))
no-input Rx i lt = refl
no-input Fifo i lt = refl
no-input Split i lt = refl
no-input (Keep n) i lt = refl
no-input (Repeat n) i lt = refl
no-input (Replay n) i lt = refl
no-input (Switch n) i lt = refl
no-input Sink i lt = refl

block-there : (plan : RunPlan) (b : ℕ) → not (is_rx (block_at plan b).kind) ≡ true → b < length plan.blocks
block-there plan b no_rx =
    elim (cases_lt b (length plan.blocks)) [
      | inl lt ↦ lt
      | inr past ↦ absurd (false≢true (ap (λ (block : BlockPlan). not (is_rx block.kind)) (sym (get_or_past plan.blocks b no_block past)) ∙ no_rx))
    ]

epid-from : ℕ → Epid
epid-from n = record { 0 = n }

same-epid : (a b : Epid) → (a.0 == b.0) ≡ true → a ≡ b
unfolding epid-from
same-epid a b same = ap epid-from (eqb-true a.0 b.0 same)

-- stream t begins at output j of block b
record BeginsAt (plan : RunPlan) (b j t : ℕ) : Type 0 where
  epid : Epid
  port : slice_get (block_at plan b).outs j ≡ Some epid
  found : stream_from plan epid ≡ Some t
  there : t < length plan.streams
  from : (plan_at plan t).from ≡ epid

begins-at : (plan : RunPlan) (b j t : ℕ) → stream_out_of plan (block_at plan b) j ≡ Some t → BeginsAt plan b j t
begins-at plan b j t is = option_and_then_some (stream_from plan) (slice_get (block_at plan b).outs j) t is (λ epid at found.
    let place = position-Some (is_from epid) plan.streams t no_stream found in
    record { epid = epid; port = at; found = found; there = place.0; from = same-epid (plan_at plan t).from epid place.1 })

all-at : {X : Type 0} (test : X → Bool) (xs : List X) (i : ℕ) (x : X) → slice_get xs i ≡ Some x → list_all test xs ≡ true → test x ≡ true
all-at test [] i x at h = cc
all-at test (y ∷ ys) zero x at h = let same : y ≡ x = cc in subst (λ z. test z ≡ true) same (both-first (test y) (list_all test ys) h)
all-at test (y ∷ ys) (suc i) x at h = all-at test ys i x at (both-second (test y) (list_all test ys) h)

none-ready : (packets : List Packet) → not (has_packet packets) ≡ true → packets ≡ []
none-ready [] is = refl
none-ready (p ∷ ps) is = absurd (false≢true is)

clear-out : (w : State) (b j t : ℕ) → list_all (is_clear (front w)) (block_at w.plan b).outs ≡ true → BeginsAt w.plan b j t → (stream_at w t).ready ≡ []
clear-out w b j t all out =
    let here : is_clear (front w) out.epid ≡ true = all-at (is_clear (front w)) (block_at w.plan b).outs j out.epid out.port all in
    let at : not (has_packet (front_at (front w) t).ready) ≡ true =
    subst (λ (o : Option ℕ). option_map_or (λ s. not (has_packet (front_at (front w) s).ready)) o false ≡ true) out.found here in
    none-ready (stream_at w t).ready (subst (λ (st : StreamFront). not (has_packet st.ready) ≡ true) (fronts.stream w t) at)

-- ---- what is kept of a block

kept-kind : (w : State) (block : BlockPlan) → ((kept_at w block).kind ≡ block.kind) × ((kept_at w block).item ≡ block.item)
unfolding kept_of
kept-kind w block = (refl, refl)

fed-kept : (w : State) (block : BlockPlan) → not (is_rx block.kind) ≡ true → fed_kept w block ≡ kept_at w block
fed-kept w block no_rx = by_rx (is_rx block.kind) no_rx
  where
    by_rx : (b : Bool) → not b ≡ true → (if b then kept_of block.kind block.item (lists [] []) else kept_at w block) ≡ kept_at w block
    by_rx true is = absurd (false≢true is)
    by_rx false is = refl

-- ---- the packet that is fed

record IsFed (w : State) (s : ℕ) : Type 0 where
  packet : Packet
  at : slice_get (stream_at w s).given (stream_at w s).taken ≡ Some packet
  first : drop (stream_at w s).taken (stream_at w s).given ≡ packet ∷ drop (suc (stream_at w s).taken) (stream_at w s).given
  kept : get_or (stream_at w s).given (stream_at w s).taken packet ≡ packet

fed-packet : (w : State) (s : ℕ) → (stream_at w s).taken < length (stream_at w s).given → IsFed w s
fed-packet w s lt = by_place (slice_get_cases (stream_at w s).given (stream_at w s).taken).1
  where
    given : List Packet
    given = (stream_at w s).given

    n : ℕ
    n = (stream_at w s).taken

    by_place : ((p : Packet) × (n < length given) × (slice_get given n ≡ Some p) × (get_or given n p ≡ p)) ⊎ ((length given ≤ n) × (slice_get given n ≡ None)) → IsFed w s
    by_place (inl found) = record {
      packet = found.0;
      at = found.2;
      first = drop-cons given n found.0 lt ∙ ap (λ (p : Packet). p ∷ drop (suc n) given) found.3;
      kept = found.3;
    }
    by_place (inr none) = let past = none.0 in absurd (omega (arith, lt, past))

held : (o : Option ℕ) → IsSome o → (x : ℕ) × (o ≡ Some x)
held None is = absurd (false≢true is)
held (Some x) is = (x, refl)

-- a packet of the form of a stream is one that the stream's block takes
feed-of : (w : State) (b i s : ℕ) (packet : Packet) → Lawful w → s < length w.plan.streams → stream_into w.plan (block_at w.plan b) i ≡ Some s → IsPacketOn w.plan s packet →
    IsFeed (block_at w.plan b).item packet
feed-of w b i s packet lawful there into form =
    let sound = lawful.steady.plan in
    let a = held (producer_of w.plan s) (sound.ports s there).0 in
    let taker = blocks_take w.tree w.plan b i s sound into in
    let one = (sound.fits.forms s there a.0 b a.1 taker).item in
    subst (λ (n : ℕ). IsFeed n packet) one
    (subst (λ (o : Option ℕ). IsFeed (option_map_or (λ c. (block_at w.plan c).item) o 0) packet) a.1 form.feed)

-- ---- what the block gives

-- the state after the feed
fed-state : (w : State) (b i s : ℕ) (packet : Packet) → stream_into w.plan (block_at w.plan b) i ≡ Some s → slice_get (stream_at w s).given (stream_at w s).taken ≡ Some packet →
    after w (Feed b i) ≡ gives_out (block_at w.plan b) (gives (kept_at w (block_at w.plan b)) i packet) (on_stream s (taken_to ((stream_at w s).taken + 1)) w)
unfolding after
fed-state w b i s packet into at =
    ap (λ (o : Option ℕ). option_map_or (λ t. feeds_from (block_at w.plan b) i t w) o w) into
    ∙ ap (λ (o : Option Packet). option_map_or (λ p. gives_out (block_at w.plan b) (gives (kept_at w (block_at w.plan b)) i p) (on_stream s (taken_to ((stream_at w s).taken + 1)) w)) o w) at

module _ (w : State) (b i s : ℕ) (packet : Packet) (lawful : Lawful w) (may_it : IsTrue (enabled w (Feed b i)))
    (into : stream_into w.plan (block_at w.plan b) i ≡ Some s) (at : slice_get (stream_at w s).given (stream_at w s).taken ≡ Some packet) where
  given : Lists
  given = gives (kept_at w (block_at w.plan b)) i packet

  took : State
  took = on_stream s (taken_to ((stream_at w s).taken + 1)) w

  out-form : (t : ℕ) → t < length w.plan.streams → All (IsPacketOn w.plan t) (stream_at (gives_out (block_at w.plan b) given took) t).ready
  unfolding given took
  out-form t there =
      let next = lawful_stays w (Happens (Feed b i)) lawful may_it in
      let shape = shape_stays w (Happens (Feed b i)) in
      let lt : t < length (after w (Feed b i)).streams = subst (λ n. t < n) (sym (shape.streams ∙ lawful.steady.as_many)) there in
      let form : HasForm w.plan t (stream_at (after w (Feed b i)) t) = subst (λ (plan : RunPlan). HasForm plan t (stream_at (after w (Feed b i)) t)) shape.plan (next.steady.forms t lt) in
      subst (λ (v : State). All (IsPacketOn w.plan t) (stream_at v t).ready) (fed-state w b i s packet into at) form.ready

  took-length : length took.streams ≡ length w.streams
  unfolding took
  took-length = length-set w.streams s (taken_to ((stream_at w s).taken + 1) (stream_at w s))

  all-short : (t : ℕ) (packets : List Packet) → t < length w.plan.streams → All (IsPacketOn w.plan t) packets → All (λ p. length_of p ≤ 65535) packets
  all-short t packets there each =
      All-weaker (IsPacketOn w.plan t) (λ (p : Packet). length_of p ≤ 65535) (λ p form. short-on w.tree w.plan t p lawful.steady.plan there form) packets each

  first-short : (t : ℕ) → stream_out_of w.plan (block_at w.plan b) 0 ≡ Some t → t < length w.plan.streams → All (λ p. length_of p ≤ 65535) given.first
  unfolding given took
  first-short t out there =
      let o0 = stream_out_of w.plan (block_at w.plan b) 0 in
      let o1 = stream_out_of w.plan (block_at w.plan b) 1 in
      let lt : t < length took.streams = subst (λ n. t < n) (sym (took-length ∙ lawful.steady.as_many)) there in
      all-short t given.first there
      (ready-now (IsPacketOn w.plan t) took o0 given.first t out lt
      (ready-before (IsPacketOn w.plan t) (on_any_stream o0 (readies given.first) took) o1 given.second t (out-form t there)))

  second-short : (t : ℕ) → stream_out_of w.plan (block_at w.plan b) 1 ≡ Some t → t < length w.plan.streams → All (λ p. length_of p ≤ 65535) given.second
  unfolding given took
  second-short t out there =
      let o0 = stream_out_of w.plan (block_at w.plan b) 0 in
      let o1 = stream_out_of w.plan (block_at w.plan b) 1 in
      let between = on_any_stream o0 (readies given.first) took in
      let lt : t < length between.streams = subst (λ n. t < n) (sym (any-length o0 (readies given.first) took ∙ took-length ∙ lawful.steady.as_many)) there in
      all-short t given.second there (ready-now (IsPacketOn w.plan t) between o1 given.second t out lt (out-form t there))

-- ---- Feed

into-there : (plan : RunPlan) (b i s : ℕ) → stream_into plan (block_at plan b) i ≡ Some s → s < length plan.streams
into-there plan b i s into =
    option_and_then_some (stream_to plan) (slice_get (block_at plan b).ins i) s into (λ epid at found. (position-Some (is_to epid) plan.streams s no_stream found).0)

not-true : (b : Bool) → not b ≡ true → b ≡ false
not-true true is = absurd (false≢true is)
not-true false is = refl

-- a present with the state's own plan
abbrev with_plan : Present → RunPlan → Present
with_plan p plan = record p { plan = plan }

feed-from : (p : Present) (w : State) (b i s : ℕ) → Lawful w → IsNow p w → IsTrue (enabled w (Feed b i)) → not (is_rx (block_at w.plan b).kind) ≡ true →
    stream_into w.plan (block_at w.plan b) i ≡ Some s → has_untaken (front w) s ≡ true → list_all (is_clear (front w)) (block_at w.plan b).outs ≡ true →
    FeedNeeds (with_plan p w.plan) b i
unfolding given
feed-from p w b i s lawful now may_it no_rx into has clear = record {
  there = subst (λ n. b < n) (sym now.as_many_blocks) (block-there w.plan b no_rx);
  kept = record { kind = kind; item = item };
  no_tx = no-input block.kind i (planned.inputs b i s into);
  port = subst (λ (k : BlockKind). i < inputs k) (sym kind) (planned.inputs b i s into);
  stream = s;
  into = into;
  stream_there = subst (λ n. s < n) (sym many) there;
  packet = packet;
  first = ap (λ (ps : List Packet). slice_get ps 0) waiting;
  waits = some;
  feed = subst (λ (n : ℕ). IsFeed n packet) (sym item) (feed-of w b i s packet lawful there into form);
  first_out = λ t out. fill 0 (gives (block_now_at p.blocks b).kept i packet).first t out
      (subst (λ (k : Kept). All (λ q. length_of q ≤ 65535) (gives k i packet).first) (sym kept) (first-short w b i s packet lawful may_it into fed.at t out (begins-at w.plan b 0 t out).there));
  second_out = λ t out. fill 1 (gives (block_now_at p.blocks b).kept i packet).second t out
      (subst (λ (k : Kept). All (λ q. length_of q ≤ 65535) (gives k i packet).second) (sym kept) (second-short w b i s packet lawful may_it into fed.at t out (begins-at w.plan b 1 t out).there));
  apart = apart;
}
  where
    block : BlockPlan
    block = block_at w.plan b

    planned : ArePlanned w.plan
    planned = plans_fit w.tree w.plan lawful.steady.plan

    there : s < length w.plan.streams
    there = into-there w.plan b i s into

    many : length p.streams ≡ length w.plan.streams
    many = now.as_many_streams ∙ lawful.steady.as_many

    untaken : (stream_at w s).taken < length (stream_at w s).given
    untaken = lt-from (stream_at w s).taken (length (stream_at w s).given) (subst (λ (st : StreamFront). nat_lt st.taken st.given ≡ true) (fronts.stream w s) has)

    fed : IsFed w s
    fed = fed-packet w s untaken

    packet : Packet
    packet = fed.packet

    kept : (block_now_at p.blocks b).kept ≡ kept_at w block
    kept = ap (λ (k : BlockNow). k.kept) (now.blocks b) ∙ fed-kept w block no_rx

    kind : (block_now_at p.blocks b).kept.kind ≡ block.kind
    kind = ap (λ (k : Kept). k.kind) kept ∙ (kept-kind w block).0

    item : (block_now_at p.blocks b).kept.item ≡ block.item
    item = ap (λ (k : Kept). k.item) kept ∙ (kept-kind w block).1

    handed : (now.streams s).handed ≡ (stream_at w s).taken
    handed = (now.streams s).fed (planned.takers b i s into ∙ not-true (is_rx block.kind) no_rx)

    waiting : (now_at p.streams s).waiting ≡ packet ∷ drop (suc (stream_at w s).taken) (stream_at w s).given
    waiting = ap (λ (st : StreamNow). st.waiting) (now.streams s).is ∙ ap (λ n. drop n (stream_at w s).given) handed ∙ fed.first

    some : 0 < length (now_at p.streams s).waiting
    some = let long = ap length waiting in omega (arith, long)

    form : IsPacketOn w.plan s packet
    form = subst (IsPacketOn w.plan s) fed.kept
        (All-get_or (IsPacketOn w.plan s) (stream_at w s).given (stream_at w s).taken packet untaken
        (lawful.steady.forms s (subst (λ n. s < n) (sym lawful.steady.as_many) there)).given)

    fill : (j : ℕ) (packets : List Packet) (t : ℕ) → stream_out_of w.plan block j ≡ Some t → All (λ q. length_of q ≤ 65535) packets → FillNeeds (with_plan p w.plan) b packets t
    fill j packets t out short = record {
      there = subst (λ n. t < n) (sym many) (begins-at w.plan b j t out).there;
      producer = blocks_give w.tree w.plan b j t lawful.steady.plan out;
      clear = ap (λ (st : StreamNow). st.ready) (now.streams t).is ∙ clear-out w b j t clear (begins-at w.plan b j t out);
      short = short;
    }

    apart : (t : ℕ) → stream_out_of w.plan block 0 ≡ Some t → stream_out_of w.plan block 1 ≡ Some t → ⊥
    apart t out0 out1 =
        let one = begins-at w.plan b 0 t out0 in
        let two = begins-at w.plan b 1 t out1 in
        let same : two.epid ≡ one.epid = sym two.from ∙ one.from in
        let ports : 0 ≡ 1 = (lawful.steady.plan.endpoints_free.1 b b 0 1 one.epid one.port (two.port ∙ ap (λ (x : Epid). Some x) same)).1 in
        omega (arith, ports)

feed-at : (p : Present) (w : State) (b i : ℕ) → Lawful w → IsNow p w → IsTrue (enabled w (Feed b i)) → FeedNeeds (with_plan p w.plan) b i
unfolding may
feed-at p w b i lawful now may_it = by_stream (stream_into w.plan block i) refl some
  where
    block : BlockPlan
    block = block_at w.plan b

    all_clear : Bool
    all_clear = list_all (is_clear (front w)) block.outs

    untaken : Bool
    untaken = option_map_or (has_untaken (front w)) (stream_into w.plan block i) false

    no_rx : not (is_rx block.kind) ≡ true
    no_rx = both-first (not (is_rx block.kind)) (untaken && all_clear) may_it

    some : untaken ≡ true
    some = both-first untaken all_clear (both-second (not (is_rx block.kind)) (untaken && all_clear) may_it)

    clear : all_clear ≡ true
    clear = both-second untaken all_clear (both-second (not (is_rx block.kind)) (untaken && all_clear) may_it)

    by_stream : (o : Option ℕ) → stream_into w.plan block i ≡ o → option_map_or (has_untaken (front w)) o false ≡ true → FeedNeeds (with_plan p w.plan) b i
    by_stream None into has = absurd (false≢true has)
    by_stream (Some s) into has = feed-from p w b i s lawful now may_it no_rx into has clear

pub feed-ready : FeedIsReady
feed-ready p w b i lawful now may_it =
    let in_w : enabled w (Feed b i) ≡ true = sym (present_tells p w (Feed b i) now) ∙ may_it in
    subst (λ (plan : RunPlan). FeedNeeds (with_plan p plan) b i) (sym now.plan) (feed-at p w b i lawful now in_w)
