-- What a block gives for a packet is what its streams have ready then, behind what it made before.
use Rattle.std.proofs.Common.{◌≡◌, ◌≢◌, ℕ, ◌+◌, ◌<◌, Bool, true, false, List, [], ◌∷◌, ◌++◌, length, take, refl, sym, ◌∙◌, ap, subst, arith, append_assoc, append-nil, eq-eqb, zero, suc, if◌then◌else◌}
use Rattle.std.specs.Prelude.{Option, Some, None, slice_get, ◌==◌}
use Rattle.std.specs.Option.{option_map_or}
use Rattle.std.proofs.lemmas.Bool.{eqb-true, false≢true}
use Rattle.std.proofs.lemmas.List.{get_or-set_other, get_or-set_same, length-append, length-set}
use Rattle.rf_base.proofs.Places.{one-set}
use Rattle.block_library.specs.Blocks.{Lists, alone, block_of, inputs, joined, outputs}
use Rattle.block_library.specs.Memory.{lists}
use Rattle.block_library.specs.Producer.{produced}
use Rattle.block_library.specs.declared.kind.BlockKind.{BlockKind}
use Rattle.block_library.specs.declared.kind.BlockKind.TheVariants.{Tx, Rx, Fifo, Split, Keep, Repeat, Replay, Switch, Sink}
use Rattle.chdr_packets.specs.declared.packet.Packet.{Packet}
use Rattle.chdr_words.specs.declared.epid.Epid.{Epid}
use Rattle.net_topology.specs.declared.plan.Plan.{Plan}
use Rattle.net_machine.specs.declared.plan.BlockPlan.{BlockPlan}
use Rattle.net_machine.specs.declared.plan.RunPlan.{RunPlan}
use Rattle.net_machine.specs.declared.plan.StreamPlan.{StreamPlan}
use Rattle.net_machine.specs.Begin.{source_of}
use Rattle.net_machine.specs.Effects.{gives_out, on_any_stream, on_stream}
use Rattle.net_machine.specs.Plain.{given_at, is_second, numbered_from}
use Rattle.net_machine.specs.Plans.{block_at, is_tx, plan_at, producer_of, stream_into, stream_out_of}
use Rattle.net_machine.specs.State.{State, Stream, idle, stream_at}
use Rattle.net_machine.specs.Streams.{readies, taken_of, taken_to}
use Rattle.net_flows.specs.Lasting.{IsSound}
use Rattle.net_lawful.proofs.Making.{fed-same, fed_by, length-numbered, made_by, made_at, numbered-append, takens}
use Rattle.net_lawful.proofs.Planned.{once}

-- ---- what becomes ready, and what is taken

-- more packets are ready
pub record Readied (old new : Stream) (add : List Packet) : Type 0 where
  pub sent : new.sent ≡ old.sent
  pub ready : new.ready ≡ old.ready ++ add
  pub taken : taken_of new ≡ taken_of old
  pub peak : new.peak ≡ old.peak

-- what is added to stream t where these packets go to a stream
abbrev pub added : Option ℕ → ℕ → List Packet → List Packet
added None t xs = []
added (Some s) t xs = if s == t then xs else []

readied : (u : State) (o : Option ℕ) (xs : List Packet) → ((s : ℕ) → o ≡ Some s → s < length u.streams) → (t : ℕ) →
    Readied (stream_at u t) (stream_at (on_any_stream o (readies xs) u) t) (added o t xs)
readied u None xs there t = record { sent = refl; ready = sym (append-nil (stream_at u t).ready); taken = refl; peak = refl }
readied u (Some s) xs there t = by_same (s == t) refl
  where
    v : State
    v = on_stream s (readies xs) u

    by_same : (b : Bool) → (s == t) ≡ b → Readied (stream_at u t) (stream_at v t) (if b then xs else [])
    by_same true is =
        let same : s ≡ t = eqb-true s t is in
        let at : stream_at v t ≡ readies xs (stream_at u t) =
        sym (ap (stream_at v) same) ∙ get_or-set_same u.streams s (readies xs (stream_at u s)) idle (there s refl) ∙ ap (λ r. readies xs (stream_at u r)) same in
        record { sent = ap (λ (st : Stream). st.sent) at; ready = ap (λ (st : Stream). st.ready) at; taken = ap taken_of at; peak = ap (λ (st : Stream). st.peak) at }
    by_same false is =
        let at : stream_at v t ≡ stream_at u t =
        get_or-set_other u.streams s t (readies xs (stream_at u s)) idle (λ same. false≢true (sym is ∙ eq-eqb s t (sym same))) in
        record {
          sent = ap (λ (st : Stream). st.sent) at;
          ready = ap (λ (st : Stream). st.ready) at ∙ sym (append-nil (stream_at u t).ready);
          taken = ap taken_of at;
          peak = ap (λ (st : Stream). st.peak) at;
        }

any-length : (o : Option ℕ) (next : Stream → Stream) (u : State) → length (on_any_stream o next u).streams ≡ length u.streams
any-length None next u = refl
any-length (Some s) next u = length-set u.streams s (next (stream_at u s))

take-more : {A : Type 0} (xs : List A) (k : ℕ) (x : A) → slice_get xs k ≡ Some x → take (k + 1) xs ≡ take k xs ++ x ∷ []
take-more [] zero x is = cc
take-more [] (suc k) x is = cc
take-more (y ∷ ys) zero x is = let same : y ≡ x = cc in ap (λ z. z ∷ []) same
take-more (y ∷ ys) (suc k) x is = let e : suc k + 1 ≡ suc (k + 1) = omega arith in rw e (ap (λ zs. y ∷ zs) (take-more ys k x is))

-- one packet of stream s is taken, and what is given for it is ready on two streams
pub record IsFed (w v : State) (s : ℕ) (p : Packet) (first second : Option ℕ) (given : Lists) : Type 0 where
  pub sent : (t : ℕ) → (stream_at v t).sent ≡ (stream_at w t).sent
  pub ready : (t : ℕ) → (stream_at v t).ready ≡ ((stream_at w t).ready ++ added first t given.first) ++ added second t given.second
  pub others : (t : ℕ) → t ≢ s → takens v t ≡ takens w t
  pub taken : takens v s ≡ takens w s ++ p ∷ []
  pub peak : (t : ℕ) → (stream_at v t).peak ≡ (stream_at w t).peak

pub fed-state : (w : State) (block : BlockPlan) (s : ℕ) (p : Packet) (given : Lists) → s < length w.streams →
    ((j t : ℕ) → stream_out_of w.plan block j ≡ Some t → t < length w.streams) → slice_get (stream_at w s).given (stream_at w s).taken ≡ Some p →
    IsFed w (gives_out block given (on_stream s (taken_to ((stream_at w s).taken + 1)) w)) s p (stream_out_of w.plan block 0) (stream_out_of w.plan block 1) given
fed-state w block s p given there outs at =
    let next = taken_to ((stream_at w s).taken + 1) in
    let u = on_stream s next w in
    let long : length u.streams ≡ length w.streams = length-set w.streams s (next (stream_at w s)) in
    let first = readied u (stream_out_of w.plan block 0) given.first (λ t is. subst (λ n. t < n) (sym long) (outs 0 t is)) in
    let r = on_any_stream (stream_out_of w.plan block 0) (readies given.first) u in
    let longer : length r.streams ≡ length w.streams = any-length (stream_out_of w.plan block 0) (readies given.first) u ∙ long in
    let second = readied r (stream_out_of w.plan block 1) given.second (λ t is. subst (λ n. t < n) (sym longer) (outs 1 t is)) in
    let sent = one-set {B = ℕ} (λ t st none. st.sent ≡ (stream_at w t).sent) w.streams [] idle 0 (next (stream_at w s)) s (λ t. refl) refl in
    let ready = one-set {B = ℕ} (λ t st none. st.ready ≡ (stream_at w t).ready) w.streams [] idle 0 (next (stream_at w s)) s (λ t. refl) refl in
    let peak = one-set {B = ℕ} (λ t st none. st.peak ≡ (stream_at w t).peak) w.streams [] idle 0 (next (stream_at w s)) s (λ t. refl) refl in
    record {
      sent = λ t. (second t).sent ∙ (first t).sent ∙ sent t;
      ready = λ t. (second t).ready ∙ ap (λ xs. xs ++ added (stream_out_of w.plan block 1) t given.second)
          ((first t).ready ∙ ap (λ xs. xs ++ added (stream_out_of w.plan block 0) t given.first) (ready t));
      others = λ t other. (second t).taken ∙ (first t).taken ∙ ap taken_of (get_or-set_other w.streams s t (next (stream_at w s)) idle other);
      taken = (second s).taken ∙ (first s).taken ∙ ap taken_of (get_or-set_same w.streams s (next (stream_at w s)) idle there)
          ∙ take-more (stream_at w s).given (stream_at w s).taken p at;
      peak = λ t. (second t).peak ∙ (first t).peak ∙ peak t;
    }

pub added-none : (o : Option ℕ) (t : ℕ) (xs : List Packet) → (o ≡ Some t → ⊥) → added o t xs ≡ []
added-none None t xs none = refl
added-none (Some s) t xs none = by_same (s == t) refl
  where
    by_same : (b : Bool) → (s == t) ≡ b → (if b then xs else []) ≡ []
    by_same true is = absurd (none (ap (λ (n : ℕ). Some n) (eqb-true s t is)))
    by_same false is = refl

pub added-all : (o : Option ℕ) (t : ℕ) (xs : List Packet) → o ≡ Some t → added o t xs ≡ xs
added-all o t xs is = ap (λ o. added o t xs) is ∙ ap (λ (b : Bool). if b then xs else []) (eq-eqb t t refl)

-- ---- what a block was fed, and what it made

in-more : (plan : RunPlan) (f g : ℕ → List Packet) (b i s : ℕ) (p : Packet) → stream_into plan (block_at plan b) i ≡ Some s → g s ≡ f s ++ p ∷ [] →
    fed_by plan g b i ≡ fed_by plan f b i ++ p ∷ []
in-more plan f g b i s p into more =
    ap (λ o. option_map_or g o []) into ∙ more ∙ ap (λ o. option_map_or f o [] ++ p ∷ []) (sym into)

in-same : (tree : Plan) (plan : RunPlan) → IsSound tree plan → (f g : ℕ → List Packet) (b i j s : ℕ) → stream_into plan (block_at plan b) i ≡ Some s →
    ((t : ℕ) → t ≢ s → g t ≡ f t) → (i ≡ j → ⊥) → fed_by plan g b j ≡ fed_by plan f b j ++ []
in-same tree plan sound f g b i j s into others apart =
    fed-same plan g f b j (λ t at. others t (λ same. apart (once tree plan sound b b i j s into (at ∙ ap (λ (n : ℕ). Some n) same)).1))
    ∙ sym (append-nil (fed_by plan f b j))

pub lists-joined : (tree : Plan) (plan : RunPlan) → IsSound tree plan → (f g : ℕ → List Packet) (b i s : ℕ) (p : Packet) → stream_into plan (block_at plan b) i ≡ Some s → i < 2 →
    ((t : ℕ) → t ≢ s → g t ≡ f t) → g s ≡ f s ++ p ∷ [] → lists (fed_by plan g b 0) (fed_by plan g b 1) ≡ joined (lists (fed_by plan f b 0) (fed_by plan f b 1)) (alone i p)
lists-joined tree plan sound f g b zero s p into low others more =
    let first = in-more plan f g b 0 s p into more in
    let second = in-same tree plan sound f g b 0 1 s into others (λ e. omega (arith, e)) in
    λ k. lists (first k) (second k)
lists-joined tree plan sound f g b (suc zero) s p into low others more =
    let first = in-same tree plan sound f g b 1 0 s into others (λ e. omega (arith, e)) in
    let second = in-more plan f g b 1 s p into more in
    λ k. lists (first k) (second k)
lists-joined tree plan sound f g b (suc (suc i)) s p into low others more = absurd (omega (arith, low))

pub inputs-few : (kind : BlockKind) (i : ℕ) → i < inputs kind → i < 2
inputs-few Tx i lt = omega (arith, lt)
inputs-few Rx i lt = omega (arith, lt)
inputs-few Fifo i lt = omega (arith, lt)
inputs-few Split i lt = omega (arith, lt)
inputs-few (Keep n) i lt = omega (arith, lt)
inputs-few (Repeat n) i lt = omega (arith, lt)
inputs-few (Replay n) i lt = omega (arith, lt)
inputs-few (Switch n) i lt = omega (arith, lt)
inputs-few Sink i lt = omega (arith, lt)

pub no-tx : (kind : BlockKind) (i : ℕ) → i < inputs kind → is_tx kind ≡ false
no-tx Tx i lt = absurd (omega (arith, lt))
no-tx Rx i lt = refl
no-tx Fifo i lt = refl
no-tx Split i lt = refl
no-tx (Keep n) i lt = refl
no-tx (Repeat n) i lt = refl
no-tx (Replay n) i lt = refl
no-tx (Switch n) i lt = refl
no-tx Sink i lt = refl

pub outputs-few : (kind : BlockKind) (j : ℕ) → j < outputs kind → j < 2
outputs-few Tx j lt = omega (arith, lt)
outputs-few Rx j lt = omega (arith, lt)
outputs-few Fifo j lt = omega (arith, lt)
outputs-few Split j lt = omega (arith, lt)
outputs-few (Keep n) j lt = omega (arith, lt)
outputs-few (Repeat n) j lt = omega (arith, lt)
outputs-few (Replay n) j lt = omega (arith, lt)
outputs-few (Switch n) j lt = omega (arith, lt)
outputs-few Sink j lt = omega (arith, lt)

-- what goes out of joined lists
pub given-joined : (block : BlockPlan) (epid : Epid) (a b : Lists) → given_at block epid (joined a b) ≡ given_at block epid a ++ given_at block epid b
given-joined block epid a b = by_second (is_second block epid)
  where
    by_second : (c : Bool) → (if c then a.second ++ b.second else a.first ++ b.first) ≡ (if c then a.second else a.first) ++ (if c then b.second else b.first)
    by_second true = refl
    by_second false = refl

-- what goes out of a block at the beginning of stream t
abbrev pub given_for : RunPlan → (ℕ → List Packet) → ℕ → ℕ → List Packet
given_for plan taken b t = let block = block_at plan b in
    given_at block (plan_at plan t).from (block_of block.kind block.item (lists (fed_by plan taken b 0) (fed_by plan taken b 1)))

pub made-of : (plan : RunPlan) (taken : ℕ → List Packet) (b t : ℕ) → producer_of plan t ≡ Some b → is_tx (block_at plan b).kind ≡ false →
    made_by plan taken t ≡ numbered_from (plan_at plan t) 0 (given_for plan taken b t)
made-of plan taken b t by none =
    ap (λ o. option_map_or (made_at plan taken t) o []) by
    ∙ ap (λ (x : Bool). numbered_from (plan_at plan t) 0 (if x then produced (source_of (block_at plan b) (plan_at plan t).to) else given_for plan taken b t)) none

pub grown : (stream : StreamPlan) (sent ready more all : List Packet) → sent ++ numbered_from stream (length sent) ready ≡ numbered_from stream 0 all →
    sent ++ numbered_from stream (length sent) (ready ++ more) ≡ numbered_from stream 0 (all ++ more)
grown stream sent ready more all made =
    let long = ap length made in
    let parts = length-append sent (numbered_from stream (length sent) ready) in
    let one = length-numbered stream (length sent) ready in
    let whole = length-numbered stream 0 all in
    let same : length sent + length ready ≡ 0 + length all = omega (arith, long, parts, one, whole) in
    ap (λ rest. sent ++ rest) (numbered-append stream (length sent) ready more)
    ∙ sym (append_assoc sent (numbered_from stream (length sent) ready) (numbered_from stream (length sent + length ready) more))
    ∙ (λ k. made k ++ numbered_from stream (same k) more)
    ∙ sym (numbered-append stream 0 all more)
