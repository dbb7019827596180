-- What was sent and is ready stays what was made, as packets are sent and taken.
use Rattle.std.proofs.Common.{◌≡◌, ℕ, ◌+◌, ◌%◌, ◌^◌, ◌≤◌, ◌<◌, ◌⊎◌, inl, inr, Bool, true, false, IsTrue, List, [], ◌∷◌, ◌++◌, length, refl, sym, ◌∙◌, ap, subst, arith, append_assoc}
use Rattle.std.specs.Prelude.{Option, Some, None, ◌&&◌}
use Rattle.std.specs.Option.{option_map_or}
use Rattle.std.proofs.lemmas.Bool.{cases_lt, false≢true}
use Rattle.std.proofs.lemmas.List.{get_or-set_other, get_or_past, length-append, length-map, length-take}
use Rattle.rf_base.proofs.Places.{one-set}
use Rattle.block_library.specs.Blocks.{outputs}
use Rattle.block_library.specs.Memory.{lists}
use Rattle.block_library.specs.declared.kind.BlockKind.{BlockKind}
use Rattle.block_library.specs.declared.kind.BlockKind.TheVariants.{Tx, Rx, Fifo, Split, Keep, Repeat, Replay, Switch, Sink}
use Rattle.chdr_packets.specs.declared.packet.Packet.{Packet}
use Rattle.net_faults.specs.declared.fault.Fault.TheVariants as fault
use Rattle.stream_endpoint.specs.Sender.{next_number}
use Rattle.stream_laws.specs.Machine.{Core, number_at}
use Rattle.stream_laws.proofs.Laws.{numbers_go_on, taken_of_given}
use Rattle.net_machine.specs.declared.event.Event.{Event}
use Rattle.net_machine.specs.declared.event.Event.TheVariants.{Enter, Seen}
use Rattle.net_machine.specs.declared.plan.RunPlan.{RunPlan}
use Rattle.net_machine.specs.declared.plan.StreamPlan.{StreamPlan}
use Rattle.net_machine.specs.Conditions.{can_see, enabled, ends_at_rx, may}
use Rattle.net_machine.specs.Effects.{after, enters, enters_over, on_stream}
use Rattle.net_machine.specs.Front.{front, front_at}
use Rattle.net_machine.specs.Faults.{is_named}
use Rattle.net_machine.specs.Moves.{Happens}
use Rattle.net_machine.specs.Plain.{made_for, numbered_from}
use Rattle.net_machine.specs.Plans.{block_at, first_link, is_rx, plan_at, producer_of, stream_into}
use Rattle.net_machine.specs.Promises.{made_on}
use Rattle.net_machine.specs.Queues.{forward_vc}
use Rattle.net_machine.specs.State.{Sample, State, Stream, idle, stream_at}
use Rattle.net_machine.specs.Streams.{entering, numbered, sends_first, taken_of, taken_to}
use Rattle.net_machine.proofs.Laws.{shape_stays}
use Rattle.net_streams.specs.Shows.{load_of, terms_of}
use Rattle.net_flows.specs.Flows.{IsSteady}
use Rattle.net_lawful.specs.Made.{HasMade, HaveMade}
use Rattle.net_lawful.proofs.Messages.{ready-there}
use Rattle.net_lawful.proofs.Planned.{has-output, output-within, planned}
use Rattle.net_lawful.proofs.Sides.{MakesNone, same-taken, sides-stay}

-- ---- numbers

pub numbered-append : (stream : StreamPlan) (k : ℕ) (xs ys : List Packet) → numbered_from stream k (xs ++ ys) ≡ numbered_from stream k xs ++ numbered_from stream (k + length xs) ys
numbered-append stream k [] ys = let same : k ≡ k + length {A = Packet} [] = omega arith in ap (λ i. numbered_from stream i ys) same
numbered-append stream k (x ∷ xs) ys =
    let same : k + 1 + length xs ≡ k + length (x ∷ xs) = omega arith in
    ap (λ rest. numbered stream ((stream.start + k) % 2 ^ 16) x ∷ rest)
    (numbered-append stream (k + 1) xs ys ∙ ap (λ i. numbered_from stream (k + 1) xs ++ numbered_from stream i ys) same)

pub length-numbered : (stream : StreamPlan) (k : ℕ) (xs : List Packet) → length (numbered_from stream k xs) ≡ length xs
length-numbered stream k [] = refl
length-numbered stream k (x ∷ xs) = let rest = length-numbered stream (k + 1) xs in omega (arith, rest)

-- ---- what was taken was given

pub taken-within : (w : State) → IsSteady w → (s : ℕ) → (stream_at w s).taken ≤ length (stream_at w s).given
taken-within w steady s = by_order (cases_lt s (length w.streams))
  where
    by_order : (s < length w.streams) ⊎ (length w.streams ≤ s) → (stream_at w s).taken ≤ length (stream_at w s).given
    by_order (inl lt) =
        let flow = steady.flows s lt in
        let law = taken_of_given (terms_of (plan_at w.plan s)) flow.state flow.run in
        let taken : flow.state.core.taken ≡ (stream_at w s).taken = ap (λ (c : Core Packet). c.taken) flow.shows.core in
        let given : length flow.state.core.given ≡ length (stream_at w s).given = ap (λ (c : Core Packet). length c.given) flow.shows.core ∙ length-map (stream_at w s).given load_of in
        let all = law.0 in
        let cut = length-take flow.state.core.taken flow.state.core.given in
        omega (arith, all, cut, taken, given)
    by_order (inr past) = subst (λ (st : Stream). st.taken ≤ length st.given) (sym (get_or_past w.streams s idle past)) (omega arith)

-- ---- what was made, by what was taken of each stream

-- what is fed to an input
abbrev pub fed_by : RunPlan → (ℕ → List Packet) → ℕ → ℕ → List Packet
fed_by plan taken b i = option_map_or taken (stream_into plan (block_at plan b) i) []

-- what block b made for stream s
abbrev pub made_at : RunPlan → (ℕ → List Packet) → ℕ → ℕ → List Packet
made_at plan taken s b = numbered_from (plan_at plan s) 0 (made_for (block_at plan b) (plan_at plan s) (lists (fed_by plan taken b 0) (fed_by plan taken b 1)))

abbrev pub made_by : RunPlan → (ℕ → List Packet) → ℕ → List Packet
made_by plan taken s = option_map_or (made_at plan taken s) (producer_of plan s) []

-- what the consumer of each stream took
abbrev pub takens : State → ℕ → List Packet
takens w s = taken_of (stream_at w s)

pub fed-same : (plan : RunPlan) (f g : ℕ → List Packet) (b i : ℕ) → ((s : ℕ) → stream_into plan (block_at plan b) i ≡ Some s → f s ≡ g s) → fed_by plan f b i ≡ fed_by plan g b i
fed-same plan f g b i same = by_stream (stream_into plan (block_at plan b) i) same
  where
    by_stream : (o : Option ℕ) → ((s : ℕ) → o ≡ Some s → f s ≡ g s) → option_map_or f o [] ≡ option_map_or g o []
    by_stream None same = refl
    by_stream (Some s) same = same s refl

-- what a stream's producer made is the same if it took the same
pub made-inputs : (plan : RunPlan) (f g : ℕ → List Packet) (t : ℕ) →
    ((b i s : ℕ) → producer_of plan t ≡ Some b → stream_into plan (block_at plan b) i ≡ Some s → f s ≡ g s) → made_by plan f t ≡ made_by plan g t
made-inputs plan f g t same = by_block (producer_of plan t) same
  where
    by_block : (o : Option ℕ) → ((b i s : ℕ) → o ≡ Some b → stream_into plan (block_at plan b) i ≡ Some s → f s ≡ g s) →
        option_map_or (made_at plan f t) o [] ≡ option_map_or (made_at plan g t) o []
    by_block None same = refl
    by_block (Some b) same =
        let first = fed-same plan f g b 0 (λ s into. same b 0 s refl into) in
        let second = fed-same plan f g b 1 (λ s into. same b 1 s refl into) in
        λ i. numbered_from (plan_at plan t) 0 (made_for (block_at plan b) (plan_at plan t) (lists (first i) (second i)))

-- what stream t sent and will send, by its plan in w
abbrev pub IsMade : State → ℕ → Stream → Type 0
IsMade w t st = st.sent ++ numbered_from (plan_at w.plan t) (length st.sent) st.ready ≡ made_on w t

pub made-on : (w v : State) (t : ℕ) → v.plan ≡ w.plan → made_by w.plan (takens v) t ≡ made_by w.plan (takens w) t → IsMade w t (stream_at v t) → HasMade v t
made-on w v t plan same is =
    ap (λ (p : RunPlan). (stream_at v t).sent ++ numbered_from (plan_at p t) (length (stream_at v t).sent) (stream_at v t).ready) plan
    ∙ is ∙ sym same ∙ ap (λ (p : RunPlan). made_by p (takens v) t) (sym plan)

-- ---- events that neither send nor take

pub made-kept : (w : State) (e : Event) → IsSteady w → MakesNone e → HaveMade w → HaveMade (after w e)
made-kept w e steady none made t lt =
    let sides = sides-stay w e none in
    let shape = shape_stays w (Happens e) in
    let there : t < length w.streams = subst (λ n. t < n) shape.streams lt in
    let here = sides t in
    made-on w (after w e) t shape.plan
    (made-inputs w.plan (takens (after w e)) (takens w) t (λ b i s by into. same-taken (stream_at w s) (stream_at (after w e) s) (taken-within w steady s) (sides s)))
    ((λ i. here.sent i ++ numbered_from (plan_at w.plan t) (length (here.sent i)) (here.ready i)) ∙ made t there)

-- ---- an Enter

next-is : (w : State) (s : ℕ) → IsSteady w → s < length w.streams → next_number (stream_at w s).sender ≡ ((plan_at w.plan s).start + length (stream_at w s).sent) % 2 ^ 16
next-is w s steady lt =
    let flow = steady.flows s lt in
    let core = flow.shows.core in
    sym (ap (λ (c : Core Packet). next_number c.sender) core)
    ∙ numbers_go_on (terms_of (plan_at w.plan s)) flow.state flow.run
    ∙ ap (number_at (terms_of (plan_at w.plan s))) (ap (λ (c : Core Packet). length c.sent) core ∙ length-map (stream_at w s).sent load_of)

sent-first : (plan : StreamPlan) (number : ℕ) (p : Packet) (rest sent : List Packet) → number ≡ (plan.start + length sent) % 2 ^ 16 →
    (sent ++ numbered plan number p ∷ []) ++ numbered_from plan (length (sent ++ numbered plan number p ∷ [])) rest ≡ sent ++ numbered_from plan (length sent) (p ∷ rest)
sent-first plan number p rest sent is =
    let long : length (sent ++ numbered plan number p ∷ []) ≡ length sent + 1 = length-append sent (numbered plan number p ∷ []) in
    append_assoc sent (numbered plan number p ∷ []) (numbered_from plan (length (sent ++ numbered plan number p ∷ [])) rest)
    ∙ (λ i. sent ++ (numbered plan (is i) p ∷ numbered_from plan (long i) rest))

-- what holds of each stream, and of stream s once its first ready packet is sent, holds of each stream then
pub entered : (w : State) (s : ℕ) (p : Packet) (rest : List Packet) (P : ℕ → Stream → Type 0) → ((t : ℕ) → P t (stream_at w t)) →
    P s (sends_first (plan_at w.plan s) p rest (stream_at w s)) → (t : ℕ) → P t (stream_at (enters s (p ∷ rest) w) t)
entered w s p rest P each here t = by_link (first_link w.tree (plan_at w.plan s).from)
  where
    by_link : (o : Option ℕ) → P t (stream_at (on_stream s (sends_first (plan_at w.plan s) p rest) (enters_over o forward_vc (is_named w.faults (fault.Samples s (length (stream_at w s).sent)))
        (entering (plan_at w.plan s) (stream_at w s).sender p) (Sample (length (stream_at w s).sent)) w)) t)
    by_link None = one-set {B = ℕ} (λ u st none. P u st) w.streams [] idle 0 (sends_first (plan_at w.plan s) p rest (stream_at w s)) s each here t
    by_link (Some d) = one-set {B = ℕ} (λ u st none. P u st) w.streams [] idle 0 (sends_first (plan_at w.plan s) p rest (stream_at w s)) s each here t

enter-made : (w : State) (s : ℕ) (packets : List Packet) → (stream_at w s).ready ≡ packets → IsSteady w → HaveMade w → (enters s packets w).plan ≡ w.plan →
    (t : ℕ) → t < length w.streams → HasMade (enters s packets w) t
enter-made w s [] is steady made plan t lt = made t lt
enter-made w s (p ∷ rest) is steady made plan t lt =
    let st = plan_at w.plan s in
    let old = stream_at w s in
    let there = ready-there w s p rest is in
    let sent = sent-first st (next_number old.sender) p rest old.sent (next-is w s steady there)
    ∙ ap (λ packets. old.sent ++ numbered_from st (length old.sent) packets) (sym is) ∙ made s there in
    made-on w (enters s (p ∷ rest) w) t plan
    (made-inputs w.plan (takens (enters s (p ∷ rest) w)) (takens w) t (λ b i u by into.
    entered w s p rest (λ r new. taken_of new ≡ takens w r) (λ r. refl) refl u))
    (entered w s p rest (λ r new. r < length w.streams → IsMade w r new) (λ r within. made r within) (λ within. sent) t lt)

pub made-entered : (w : State) (s : ℕ) → IsSteady w → HaveMade w → HaveMade (after w (Enter s))
unfolding after
made-entered w s steady made t lt =
    let shape = shape_stays w (Happens (Enter s)) in
    enter-made w s (stream_at w s).ready refl steady made shape.plan t (subst (λ n. t < n) shape.streams lt)

-- ---- a taking

no-outputs : (kind : BlockKind) (j : ℕ) → j < outputs kind → is_rx kind ≡ false
no-outputs Tx j lt = refl
no-outputs Rx j lt = absurd (omega (arith, lt))
no-outputs Fifo j lt = refl
no-outputs Split j lt = refl
no-outputs (Keep n) j lt = refl
no-outputs (Repeat n) j lt = refl
no-outputs (Replay n) j lt = refl
no-outputs (Switch n) j lt = refl
no-outputs Sink j lt = refl

both-first : (a b : Bool) → (a && b) ≡ true → a ≡ true
both-first true b h = refl
both-first false b h = h

sees-rx : (w : State) (s n : ℕ) → IsTrue (enabled w (Seen s n)) → ends_at_rx w.plan s ≡ true
unfolding may
sees-rx w s n is = both-first (ends_at_rx w.plan s) (can_see (front_at (front w) s) n) is

pub made-seen : (w : State) (s n : ℕ) → IsSteady w → IsTrue (enabled w (Seen s n)) → HaveMade w → HaveMade (after w (Seen s n))
unfolding after
made-seen w s n steady may_it made t lt =
    let there : t < length w.streams = subst (λ m. t < m) (shape_stays w (Happens (Seen s n))).streams lt in
    let plans = planned w.tree w.plan steady.plan in
    let at-rx = sees-rx w s n may_it in
    let apart = λ (b i u : ℕ) (by : producer_of w.plan t ≡ Some b) (into : stream_into w.plan (block_at w.plan b) i ≡ Some u) (same : u ≡ s).
    let has = has-output w.plan (plan_at w.plan t).from b by in
    let none = no-outputs (block_at w.plan b).kind has.output (output-within w.tree w.plan steady.plan b has.output (plan_at w.plan t).from has.at) in
    false≢true (sym none ∙ sym (plans.takers b i u into) ∙ ap (ends_at_rx w.plan) same ∙ at-rx) in
    made-on w (on_stream s (taken_to n) w) t refl
    (made-inputs w.plan (takens (on_stream s (taken_to n) w)) (takens w) t (λ b i u by into.
    ap taken_of (get_or-set_other w.streams s u (taken_to n (stream_at w s)) idle (apart b i u by into))))
    (one-set {B = ℕ} (λ r st none. r < length w.streams → IsMade w r st) w.streams [] idle 0 (taken_to n (stream_at w s)) s made (λ within. made s within) t there)
