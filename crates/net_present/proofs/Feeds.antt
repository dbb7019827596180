-- What is kept follows where a packet is fed to a block.
use Rattle.std.proofs.Common.{◌≡◌, ℕ, ◌+◌, ◌<◌, ◌≤◌, Bool, true, false, List, [], ◌∷◌, ◌++◌, length, take, refl, sym, ◌∙◌, ap, subst, arith, get_or, set, zero, suc, Option, None, Some, cond}
use Rattle.std.specs.Prelude.{slice_get}
use Rattle.std.specs.Option.{option_map_or}
use Rattle.std.proofs.lemmas.List.{append-nil, length-set, get_or-set_same, get_or-set_other}
use Rattle.block_library.specs.Blocks.{FitsKind, Lists, alone, inputs, joined}
use Rattle.block_library.specs.Memory.{Kept, after_feed, kept_of, lists}
use Rattle.block_library.specs.declared.kind.BlockKind.{BlockKind}
use Rattle.block_library.specs.declared.kind.BlockKind.TheVariants.{Tx, Rx, Fifo, Split, Keep, Repeat, Replay, Switch, Sink}
use Rattle.block_library.proofs.Laws.{history_goes_on, lines_grow}
use Rattle.chdr_packets.specs.declared.packet.Packet.{Packet}
use Rattle.net_machine.specs.declared.plan.BlockPlan.{BlockPlan}
use Rattle.net_machine.specs.Blocks.{fed_to, kept_at}
use Rattle.net_machine.specs.Conditions.{ends_at_rx}
use Rattle.rf_base.proofs.Places.{at-set}
use Rattle.net_machine.specs.Effects.{gives_out, on_any_stream, on_stream}
use Rattle.net_machine.specs.Plans.{block_at, is_rx, stream_into, stream_out_of}
use Rattle.net_machine.specs.State.{State, Stream, idle, stream_at}
use Rattle.net_machine.specs.Streams.{readies, taken_of, taken_to}
use Rattle.net_present.specs.Fits.{ArePlanned, FitsPresent}
use Rattle.net_present.specs.Kept.{IsNow, IsStreamNow, block_now, block_now_at, fed_kept, idle_block, idle_now, line_by, now_at}
use Rattle.net_present.specs.Onward.{block_fed, gives_out_now, line_after, on_any_now, on_now}
use Rattle.net_present.specs.Present.{BlockNow, Present}
use Rattle.net_present.specs.StreamSteps.{fed_now, readies_now, taken_now}
use Rattle.net_present.proofs.Places.{any-stream-now, block-same}
use Rattle.net_present.proofs.StreamsNow.{now-feeds, now-readies, now-takes}

-- ---- lists

-- one packet more is taken
take-more : {A : Type 0} (xs : List A) (k : ℕ) (x : A) → slice_get xs k ≡ Some x → take (k + 1) xs ≡ take k xs ++ x ∷ []
take-more [] zero x is = cc
take-more [] (suc k) x is = cc
take-more (y ∷ ys) zero x is = let same : y ≡ x = cc in ap (λ z. z ∷ []) same
take-more (y ∷ ys) (suc k) x is = let e : suc k + 1 ≡ suc (k + 1) = omega arith in rw e (ap (λ zs. y ∷ zs) (take-more ys k x is))

-- a place that has an item is within
pub get-within : {A : Type 0} (xs : List A) (k : ℕ) (x : A) → slice_get xs k ≡ Some x → k < length xs
get-within [] zero x is = cc
get-within [] (suc k) x is = cc
get-within (y ∷ ys) zero x is = omega arith
get-within (y ∷ ys) (suc k) x is = let within = get-within ys k x is in omega (arith, within)

-- a stream that has a given packet is there
there : (streams : List Stream) (s k : ℕ) (p : Packet) → slice_get (get_or streams s idle).given k ≡ Some p → s < length streams
there [] zero zero p is = cc
there [] zero (suc k) p is = cc
there [] (suc s) zero p is = cc
there [] (suc s) (suc k) p is = cc
there (_ ∷ streams) zero k p is = omega arith
there (_ ∷ streams) (suc s) k p is = let within = there streams s k p is in omega (arith, within)

-- an item of a list that was written at one place
pub split-set : {A : Type 0} (P : A → Type 0) (xs : List A) (i c : ℕ) (x d : A) → i < length xs → (c ≡ i → P x) →
    ((c ≡ i → ⊥) → P (get_or xs c d)) → P (get_or (set xs i x) c d)
split-set P [] i c x d within same other = absurd (omega arith)
split-set P (_ ∷ ys) zero zero x d within same other = same refl
split-set P (_ ∷ ys) zero (suc c) x d within same other = other (λ e. omega (arith, e))
split-set P (_ ∷ ys) (suc i) zero x d within same other = other (λ e. omega (arith, e))
split-set P (_ ∷ ys) (suc i) (suc c) x d within same other =
    split-set P ys i c x d (omega arith) (λ e. same (ap suc e)) (λ ne. other (λ e. ne (omega (arith, e))))

-- ---- what was fed

fed-elsewhere : (w : State) (s : ℕ) (next : Stream → Stream) (block : BlockPlan) (j : ℕ) → (stream_into w.plan block j ≡ Some s → ⊥) →
    fed_to (on_stream s next w) block j ≡ fed_to w block j
fed-elsewhere w s next block j ne = by_stream (stream_into w.plan block j) ne
  where
    by_stream : (o : Option ℕ) → (o ≡ Some s → ⊥) →
        option_map_or (λ t. taken_of (stream_at (on_stream s next w) t)) o [] ≡ option_map_or (λ t. taken_of (stream_at w t)) o []
    by_stream None ne = refl
    by_stream (Some t) ne = ap taken_of (get_or-set_other w.streams s t (next (stream_at w s)) idle (λ e. ne (ap Some e)))

fed-here : (w : State) (s : ℕ) (block : BlockPlan) (i : ℕ) (p : Packet) → stream_into w.plan block i ≡ Some s →
    slice_get (stream_at w s).given (stream_at w s).taken ≡ Some p →
    fed_to (on_stream s (taken_to ((stream_at w s).taken + 1)) w) block i ≡ fed_to w block i ++ p ∷ []
fed-here w s block i p into is =
    let st = stream_at w s in
    let at : stream_at (on_stream s (taken_to (st.taken + 1)) w) s ≡ taken_to (st.taken + 1) st =
    get_or-set_same w.streams s _ idle (there w.streams s st.taken p is) in
    ap (λ o. option_map_or (λ t. taken_of (stream_at (on_stream s (taken_to (st.taken + 1)) w) t)) o []) into
    ∙ ap taken_of at
    ∙ take-more st.given st.taken p is
    ∙ ap (λ o. option_map_or (λ t. taken_of (stream_at w t)) o [] ++ p ∷ []) (sym into)

-- ---- the block

line-follows : (kind : BlockKind) (b item i : ℕ) (fed : List Packet) (p : Packet) → i ≡ 0 →
    line_by kind b item (fed ++ p ∷ []) ≡ line_after kind item (line_by kind b item fed) p
line-follows Tx b item i fed p e = refl
line-follows Rx b item i fed p e = refl
line-follows Fifo b item i fed p e = refl
line-follows Split b item i fed p e = refl
line-follows (Keep n) b item i fed p e = refl
line-follows (Repeat n) b item i fed p e = refl
line-follows (Replay n) b item i fed p e = refl
line-follows (Switch n) b item i fed p e = refl
line-follows Sink b item i fed p e = lines_grow.1 b item fed p

-- a block with a second input is no sink
line-stays : (kind : BlockKind) (b item i : ℕ) (fed : List Packet) (p : Packet) → i < inputs kind → (i ≡ 0 → ⊥) →
    line_by kind b item fed ≡ line_after kind item (line_by kind b item fed) p
line-stays Tx b item i fed p high ne = refl
line-stays Rx b item i fed p high ne = refl
line-stays Fifo b item i fed p high ne = refl
line-stays Split b item i fed p high ne = refl
line-stays (Keep n) b item i fed p high ne = refl
line-stays (Repeat n) b item i fed p high ne = refl
line-stays (Replay n) b item i fed p high ne = refl
line-stays (Switch n) b item i fed p high ne = refl
line-stays Sink b item i fed p high ne = absurd (ne (omega arith))

few-inputs : (kind : BlockKind) (i : ℕ) → i < inputs kind → i < 2
few-inputs Tx i high = omega arith
few-inputs Rx i high = omega arith
few-inputs Fifo i high = omega arith
few-inputs Split i high = omega arith
few-inputs (Keep n) i high = omega arith
few-inputs (Repeat n) i high = omega arith
few-inputs (Replay n) i high = omega arith
few-inputs (Switch n) i high = omega arith
few-inputs Sink i high = omega arith

pub kept-fed : (w : State) (block : BlockPlan) → is_rx block.kind ≡ false → fed_kept w block ≡ kept_at w block
kept-fed w block fed = ap (λ (b : Bool). cond b (kept_of block.kind block.item (lists [] [])) (kept_at w block)) fed

-- one packet more on the first or on the second input
kept-one : (w v : State) (block : BlockPlan) (i : ℕ) (p : Packet) → FitsKind block.kind → i < inputs block.kind →
    lists (fed_to v block 0) (fed_to v block 1) ≡ joined (lists (fed_to w block 0) (fed_to w block 1)) (alone i p) →
    kept_at v block ≡ after_feed (kept_at w block) i p
kept-one w v block i p fits high fed =
    ap (kept_of block.kind block.item) fed
    ∙ (history_goes_on block.kind block.item (lists (fed_to w block 0) (fed_to w block 1)) i p fits high).0

abbrev now_of : Kept → BlockKind → ℕ → ℕ → BlockPlan → List Packet → BlockNow
now_of kept kind b item block fed = record { kept = kept; line = line_by kind b item fed }

-- the block to which the packet was fed
block-follows : (w : State) (b i s : ℕ) (block : BlockPlan) (p : Packet) → FitsKind block.kind → is_rx block.kind ≡ false → i < inputs block.kind →
    stream_into w.plan block i ≡ Some s → slice_get (stream_at w s).given (stream_at w s).taken ≡ Some p →
    ((j : ℕ) → (j ≡ i → ⊥) → stream_into w.plan block j ≡ Some s → ⊥) →
    block_fed i p (block_now w b block) ≡ block_now (on_stream s (taken_to ((stream_at w s).taken + 1)) w) b block
unfolding kept_of
block-follows w b i s block p fits fed_at high into is apart = by_input i (few-inputs block.kind i high) high into apart
  where
    by_input : (i : ℕ) → i < 2 → i < inputs block.kind → stream_into w.plan block i ≡ Some s → ((j : ℕ) → (j ≡ i → ⊥) → stream_into w.plan block j ≡ Some s → ⊥) →
        block_fed i p (block_now w b block) ≡ block_now (on_stream s (taken_to ((stream_at w s).taken + 1)) w) b block
    by_input zero low high into apart =
        let v = on_stream s (taken_to ((stream_at w s).taken + 1)) w in
        let first : fed_to v block 0 ≡ fed_to w block 0 ++ p ∷ [] = fed-here w s block 0 p into is in
        let second : fed_to v block 1 ≡ fed_to w block 1 = fed-elsewhere w s (taken_to ((stream_at w s).taken + 1)) block 1 (apart 1 (λ e. omega (arith, e))) in
        let fed : lists (fed_to v block 0) (fed_to v block 1) ≡ joined (lists (fed_to w block 0) (fed_to w block 1)) (alone 0 p) =
        rw (first, second, append-nil (fed_to w block 1)) refl in
        let kept : kept_at v block ≡ after_feed (kept_at w block) 0 p = kept-one w v block 0 p fits high fed in
        rw (kept-fed w block fed_at, kept-fed v block fed_at, kept, first, line-follows block.kind b block.item 0 (fed_to w block 0) p refl) refl
    by_input (suc zero) low high into apart =
        let v = on_stream s (taken_to ((stream_at w s).taken + 1)) w in
        let first : fed_to v block 0 ≡ fed_to w block 0 = fed-elsewhere w s (taken_to ((stream_at w s).taken + 1)) block 0 (apart 0 (λ e. omega (arith, e))) in
        let second : fed_to v block 1 ≡ fed_to w block 1 ++ p ∷ [] = fed-here w s block 1 p into is in
        let fed : lists (fed_to v block 0) (fed_to v block 1) ≡ joined (lists (fed_to w block 0) (fed_to w block 1)) (alone 1 p) =
        rw (first, second, append-nil (fed_to w block 0)) refl in
        let kept : kept_at v block ≡ after_feed (kept_at w block) 1 p = kept-one w v block 1 p fits high fed in
        rw (kept-fed w block fed_at, kept-fed v block fed_at, kept, first, ← line-stays block.kind b block.item 1 (fed_to w block 0) p high (λ e. omega (arith, e))) refl
    by_input (suc (suc i)) low high into apart = absurd (omega arith)

-- ---- the feed

apart-of : (w : State) (b i s : ℕ) → ArePlanned w.plan → stream_into w.plan (block_at w.plan b) i ≡ Some s →
    (c j : ℕ) → ((c ≡ b) → (j ≡ i) → ⊥) → stream_into w.plan (block_at w.plan c) j ≡ Some s → ⊥
apart-of w b i s ends into c j ne other = let same = ends.once c b j i s other into in ne same.0 same.1

-- the packet is fed: the stream and the block go on
pub fed-follows : (p : Present) (w : State) (b i s : ℕ) (packet : Packet) → FitsPresent w → IsNow p w → is_rx (block_at w.plan b).kind ≡ false →
    stream_into w.plan (block_at w.plan b) i ≡ Some s → b < length w.plan.blocks →
    slice_get (stream_at w s).given (stream_at w s).taken ≡ Some packet →
    IsNow (record (on_now s fed_now p) { blocks = set p.blocks b (block_fed i packet (block_now_at p.blocks b)) })
    (on_stream s (taken_to ((stream_at w s).taken + 1)) w)
fed-follows p w b i s packet fits now fed_at into within is =
    let v = on_stream s (taken_to ((stream_at w s).taken + 1)) w in
    let block = block_at w.plan b in
    let at_rx : ends_at_rx w.plan s ≡ false = fits.ends.takers b i s into ∙ fed_at in
    let some = get-within (stream_at w s).given (stream_at w s).taken packet is in
    let here : IsStreamNow (ends_at_rx w.plan s) (fed_now (now_at p.streams s)) (taken_to ((stream_at w s).taken + 1) (stream_at w s)) =
    subst (λ rx. IsStreamNow rx (fed_now (now_at p.streams s)) (taken_to ((stream_at w s).taken + 1) (stream_at w s))) (sym at_rx)
    (now-feeds (now_at p.streams s) (stream_at w s) (omega (arith, some)) (subst (λ rx. IsStreamNow rx (now_at p.streams s) (stream_at w s)) at_rx (now.streams s))) in
    let same : block_fed i packet (block_now_at p.blocks b) ≡ block_now v b block =
    ap (block_fed i packet) (now.blocks b)
    ∙ block-follows w b i s block packet (fits.ends.kinds b) fed_at (fits.ends.inputs b i s into) into is
    (λ j ne. apart-of w b i s fits.ends into b j (λ e. ne)) in
    record {
      tree = now.tree;
      plan = now.plan;
      queues = now.queues;
      nodes = now.nodes;
      as_many_streams = simp length-set now.as_many_streams;
      streams = at-set (λ k. IsStreamNow (ends_at_rx w.plan k)) p.streams w.streams idle_now idle _ _ s now.as_many_streams now.streams here;
      as_many_blocks = length-set p.blocks b _ ∙ now.as_many_blocks;
      blocks = λ c. split-set (λ (it : BlockNow). it ≡ block_now v c (block_at w.plan c)) p.blocks b c _ (idle_block c) (omega (arith, now.as_many_blocks))
          (λ e. subst (λ k. block_fed i packet (block_now_at p.blocks b) ≡ block_now v k (block_at w.plan k)) (sym e) same)
          (λ ne. now.blocks c ∙ block-same w v c (block_at w.plan c)
          (sym (fed-elsewhere w s (taken_to ((stream_at w s).taken + 1)) (block_at w.plan c) 0 (apart-of w b i s fits.ends into c 0 (λ e f. ne e))))
          (sym (fed-elsewhere w s (taken_to ((stream_at w s).taken + 1)) (block_at w.plan c) 1 (apart-of w b i s fits.ends into c 1 (λ e f. ne e)))));
      faults = now.faults;
      requests = now.requests;
      answers = now.answers;
    }

-- what a block gives becomes ready
pub gives-follows : (p : Present) (w : State) (block : BlockPlan) (given : Lists) → IsNow p w →
    IsNow (gives_out_now block given p) (gives_out block given w)
gives-follows p w block given now =
    let first : IsNow (on_any_now (stream_out_of p.plan block 0) (readies_now given.first) p) (on_any_stream (stream_out_of w.plan block 0) (readies given.first) w) =
    on p w (stream_out_of p.plan block 0) (stream_out_of w.plan block 0) given.first (ap (λ plan. stream_out_of plan block 0) now.plan) now in
    on _ _ (stream_out_of p.plan block 1) (stream_out_of w.plan block 1) given.second (ap (λ plan. stream_out_of plan block 1) now.plan) first
  where
    on : (p : Present) (w : State) (o r : Option ℕ) (packets : List Packet) → o ≡ r → IsNow p w →
        IsNow (on_any_now o (readies_now packets) p) (on_any_stream r (readies packets) w)
    on p w o r packets e now =
        subst (λ it. IsNow (on_any_now it (readies_now packets) p) (on_any_stream r (readies packets) w)) (sym e)
        (any-stream-now p w r (readies_now packets) (readies packets) now (λ s is. now-readies _ _ _ packets (now.streams s)) (λ s is. refl))

-- ---- a taking at an Rx

differs : true ≡ false → ⊥
differs e = cc

line-at-rx : (kind : BlockKind) (b item : ℕ) (fed more : List Packet) → is_rx kind ≡ true → line_by kind b item fed ≡ line_by kind b item more
line-at-rx Tx b item fed more is = refl
line-at-rx Rx b item fed more is = refl
line-at-rx Fifo b item fed more is = refl
line-at-rx Split b item fed more is = refl
line-at-rx (Keep n) b item fed more is = refl
line-at-rx (Repeat n) b item fed more is = refl
line-at-rx (Replay n) b item fed more is = refl
line-at-rx (Switch n) b item fed more is = refl
line-at-rx Sink b item fed more is = absurd (differs (sym is))

-- what an Rx takes is no block's
pub blocks-stay : (w : State) (s n : ℕ) → ArePlanned w.plan → ends_at_rx w.plan s ≡ true → (b : ℕ) →
    block_now w b (block_at w.plan b) ≡ block_now (on_stream s (taken_to n) w) b (block_at w.plan b)
blocks-stay w s n ends rx b = by_kind (is_rx (block_at w.plan b).kind) refl
  where
    by_kind : (r : Bool) → is_rx (block_at w.plan b).kind ≡ r →
        block_now w b (block_at w.plan b) ≡ block_now (on_stream s (taken_to n) w) b (block_at w.plan b)
    by_kind true is =
        let v = on_stream s (taken_to n) w in
        let block = block_at w.plan b in
        let old : fed_kept w block ≡ kept_of block.kind block.item (lists [] []) = ap (λ (r : Bool). cond r (kept_of block.kind block.item (lists [] [])) (kept_at w block)) is in
        let new : fed_kept v block ≡ kept_of block.kind block.item (lists [] []) = ap (λ (r : Bool). cond r (kept_of block.kind block.item (lists [] [])) (kept_at v block)) is in
        let line = line-at-rx block.kind b block.item (fed_to w block 0) (fed_to v block 0) is in
        ap (λ (k : Kept). now_of k block.kind b block.item block (fed_to w block 0)) (old ∙ sym new)
        ∙ ap (λ l. record { kept = fed_kept v block; line = l }) line
    by_kind false is =
        let apart : (j : ℕ) → stream_into w.plan (block_at w.plan b) j ≡ Some s → ⊥ =
        (λ j into. let e : true ≡ false = sym rx ∙ ends.takers b j s into ∙ is in differs e) in
        block-same w (on_stream s (taken_to n) w) b (block_at w.plan b)
        (sym (fed-elsewhere w s (taken_to n) (block_at w.plan b) 0 (apart 0)))
        (sym (fed-elsewhere w s (taken_to n) (block_at w.plan b) 1 (apart 1)))

pub sees-follows : (p : Present) (w : State) (s n : ℕ) → FitsPresent w → ends_at_rx w.plan s ≡ true → (stream_at w s).taken ≤ n → IsNow p w →
    IsNow (on_now s (taken_now n) p) (on_stream s (taken_to n) w)
sees-follows p w s n fits rx le now =
    let here : IsStreamNow (ends_at_rx w.plan s) (taken_now n (now_at p.streams s)) (taken_to n (stream_at w s)) =
    subst (λ r. IsStreamNow r (taken_now n (now_at p.streams s)) (taken_to n (stream_at w s))) (sym rx)
    (now-takes (now_at p.streams s) (stream_at w s) n le (subst (λ r. IsStreamNow r (now_at p.streams s) (stream_at w s)) rx (now.streams s))) in
    record {
      tree = now.tree;
      plan = now.plan;
      queues = now.queues;
      nodes = now.nodes;
      as_many_streams = simp length-set now.as_many_streams;
      streams = at-set (λ k. IsStreamNow (ends_at_rx w.plan k)) p.streams w.streams idle_now idle _ _ s now.as_many_streams now.streams here;
      as_many_blocks = now.as_many_blocks;
      blocks = λ b. now.blocks b ∙ blocks-stay w s n fits.ends rx b;
      faults = now.faults;
      requests = now.requests;
      answers = now.answers;
    }
