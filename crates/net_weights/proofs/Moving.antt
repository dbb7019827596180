-- Takings, hops and losses lower the weight of a state.
use Rattle.std.proofs.Common.{◌≡◌, ℕ, zero, suc, ◌+◌, ◌*◌, ◌≤◌, ◌<◌, Bool, true, false, IsTrue, not, ◌&&◌, List, [], ◌∷◌, length, map, Option, Some, None, refl, sym, ◌∙◌, ap, subst, arith, nat_le, nat_lt, get_or-set_other, slice_get, if◌then◌else◌}
use Rattle.std.specs.List.{list_all}
use Rattle.std.specs.Option.{option_map_or}
use Rattle.std.proofs.lemmas.Bool.{and_parts, leb-true, ltb-true, not-true}
use Rattle.rf_base.proofs.Places.{one-set}
use Rattle.block_library.specs.Blocks.{Lists}
use Rattle.block_library.specs.Memory.{gives}
use Rattle.chdr_packets.specs.declared.packet.Packet.{Packet}
use Rattle.net_machine.specs.declared.event.Event.TheVariants as event
use Rattle.net_machine.specs.declared.plan.BlockPlan.{BlockPlan}
use Rattle.net_machine.specs.Blocks.{is_clear, kept_at}
use Rattle.net_machine.specs.Conditions.{can_feed, can_hop, can_lose, can_see, enabled, ends_at_rx, has_untaken, has_way, may}
use Rattle.net_machine.specs.Effects.{after, feeds, feeds_from, gives_out, hops, leaves, loses_front, on_any_stream, on_stream, stream_of}
use Rattle.net_machine.specs.Front.{StreamFront, Queued, front, front_at, queued, queued_at}
use Rattle.net_machine.specs.Moves.{Happens}
use Rattle.net_machine.specs.Passing.{passing}
use Rattle.net_machine.specs.Plans.{block_at, is_rx, stream_into, stream_out_of}
use Rattle.net_machine.specs.Queues.{channel_of, link_of_queue}
use Rattle.net_machine.specs.State.{Entry, State, Stream, idle, queue_at, stream_at}
use Rattle.net_machine.specs.Streams.{loses, readies, taken_to}
use Rattle.net_machine.proofs.Laws.{fronts, shape_stays}
use Rattle.net_flows.specs.Flows.{IsSteady}
use Rattle.net_weights.specs.Charge.{faults_left, marks_left, room_left, weight}
use Rattle.net_flows.specs.Going.{EachGoesOn}
use Rattle.net_weights.specs.Journals.{IsWeighed}
use Rattle.net_weights.specs.Work.{top_of, work}
use Rattle.net_weights.proofs.Calming.{HasKept, IsCalm, calm-gives, calm-hops, calm-stream, calm-twice, marks-leave}
use Rattle.net_weights.proofs.Events.{calm-falls, stream-idle}
use Rattle.net_weights.proofs.Falling.{charge-falls, charge-used, potentials-rise}
use Rattle.net_weights.proofs.Hopping.{hop-work}
use Rattle.net_weights.proofs.Leftovers.{HasCounts, HasGrown, faults-stay, room-stays}
use Rattle.net_weights.proofs.Potentials.{potential-low, potential-stays}
use Rattle.net_weights.proofs.Streaming.{taken-weight}
use Rattle.net_weights.proofs.Working.{there-by, work-any_more, work-leaves, work-stream_less}

never : {A : Type 0} → false ≡ true → A
never h = cc

-- ---- takings

taken-kept : (n : ℕ) (st : Stream) → HasKept st (taken_to n st)
taken-kept n st = record { sent = refl; losses = refl; statuses = omega arith; commands = omega arith }

within : (taken n given : ℕ) → (nat_lt taken n && nat_le n given) ≡ true → (taken < n) × (n ≤ given)
within taken n given is = let parts = and_parts (nat_lt taken n) (nat_le n given) is in (ltb-true taken n parts.0, leb-true n given parts.1)

may-see : (w : State) (s n : ℕ) → IsTrue (enabled w (event.Seen s n)) → ((stream_at w s).taken < n) × (n ≤ length (stream_at w s).given)
unfolding may
may-see w s n is = within (stream_at w s).taken n (length (stream_at w s).given)
    (subst (λ (f : StreamFront). can_see f n ≡ true) (fronts.stream w s) (and_parts (ends_at_rx w.plan s) (can_see (front_at (front w) s) n) is).1)

untaken-there : (w : State) (s : ℕ) → (stream_at w s).taken < length (stream_at w s).given → s < length w.streams
untaken-there w s lt = there-by w.streams s idle (λ past. none (subst (λ (st : Stream). st.taken < length st.given) (stream-idle w s past) lt))
  where
    none : 0 < 0 → ⊥
    none lt = omega arith

pub seen-falls : (w : State) (s n : ℕ) → after w (event.Seen s n) ≡ on_stream s (taken_to n) w → IsTrue (enabled w (event.Seen s n)) → IsWeighed w → EachGoesOn w (after w (event.Seen s n)) →
    weight (after w (event.Seen s n)) < weight w
seen-falls w s n to may_it fit each =
    let tests = may-see w s n may_it in
    let there = untaken-there w s (omega (arith, tests.0, tests.1)) in
    let less = work-stream_less s (taken_to n) 1 w there (taken-weight (top_of w.tree) n (stream_at w s) tests.0 tests.1) in
    calm-falls w (event.Seen s n) fit each (subst (IsCalm w) (sym to) (calm-stream w s (taken_to n) (taken-kept n (stream_at w s))))
    (subst (λ (u : State). work u < work w) (sym to) (one (work (on_stream s (taken_to n) w)) (work w) less))
  where
    one : (a b : ℕ) → a + 1 ≤ b → a < b
    one a b le = omega arith

-- ---- feeds

given-work : (block : BlockPlan) (given : Lists) (w : State) → work (gives_out block given w) ≤ work w
given-work block given w =
    let once = on_any_stream (stream_out_of w.plan block 0) (readies given.first) w in
    let first = work-any_more (stream_out_of w.plan block 0) (readies given.first) 0 w (λ st. omega arith) in
    let second = work-any_more (stream_out_of w.plan block 1) (readies given.second) 0 once (λ st. omega arith) in
    chain (work (gives_out block given w)) (work once) (work w) second first
  where
    chain : (a b c : ℕ) → a ≤ b + 0 → b ≤ c + 0 → a ≤ c
    chain a b c p q = omega arith

-- what a feed leaves
record Feeds (w v : State) : Type 0 where
  calm : IsCalm w v
  work : work v < work w

none-some : (p : Packet) → ◌≡◌ {A = Option Packet} None (Some p) → ⊥
none-some p is = cc

-- an item that is there is found
found : (ps : List Packet) (i : ℕ) → i < length ps → slice_get ps i ≡ None → ⊥
found [] i lt is = omega arith
found (p ∷ ps) zero lt is = none-some p (sym is)
found (p ∷ ps) (suc i) lt is = found ps i (omega arith) is

feeds-from : (w : State) (block : BlockPlan) (i s : ℕ) → (stream_at w s).taken < length (stream_at w s).given → Feeds w (feeds_from block i s w)
feeds-from w block i s lt = by_packet (slice_get (stream_at w s).given (stream_at w s).taken) refl
  where
    by_packet : (o : Option Packet) → slice_get (stream_at w s).given (stream_at w s).taken ≡ o →
        Feeds w (option_map_or (λ (p : Packet). gives_out block (gives (kept_at w block) i p) (on_stream s (taken_to ((stream_at w s).taken + 1)) w)) o w)
    by_packet None is = absurd (found (stream_at w s).given (stream_at w s).taken lt is)
    by_packet (Some p) is =
        let given = gives (kept_at w block) i p in
        let mid = on_stream s (taken_to ((stream_at w s).taken + 1)) w in
        let less = work-stream_less s (taken_to ((stream_at w s).taken + 1)) 1 w (untaken-there w s lt)
        (taken-weight (top_of w.tree) ((stream_at w s).taken + 1) (stream_at w s) (omega arith) (omega (arith, lt))) in
        record {
          calm = calm-twice w mid (gives_out block given mid) (calm-stream w s (taken_to ((stream_at w s).taken + 1)) (taken-kept ((stream_at w s).taken + 1) (stream_at w s))) (calm-gives block given mid);
          work = chain (work (gives_out block given mid)) (work mid) (work w) (given-work block given mid) less;
        }
      where
        chain : (a b c : ℕ) → a ≤ b → b + 1 ≤ c → a < c
        chain a b c p q = omega arith

untaken : (w : State) (s : ℕ) → has_untaken (front w) s ≡ true → (stream_at w s).taken < length (stream_at w s).given
untaken w s is = ltb-true (stream_at w s).taken (length (stream_at w s).given) (subst (λ (f : StreamFront). nat_lt f.taken f.given ≡ true) (fronts.stream w s) is)

feeds-falls : (w : State) (block : BlockPlan) (i : ℕ) → can_feed (front w) block i ≡ true → Feeds w (feeds block i w)
feeds-falls w block i may_it =
    by_stream (stream_into w.plan block i)
    (and_parts (option_map_or (has_untaken (front w)) (stream_into w.plan block i) false) (list_all (is_clear (front w)) block.outs)
    (and_parts (not (is_rx block.kind)) (option_map_or (has_untaken (front w)) (stream_into w.plan block i) false && list_all (is_clear (front w)) block.outs) may_it).1).0
  where
    by_stream : (o : Option ℕ) → option_map_or (has_untaken (front w)) o false ≡ true → Feeds w (option_map_or (λ (s : ℕ). feeds_from block i s w) o w)
    by_stream None is = never is
    by_stream (Some s) is = feeds-from w block i s (untaken w s is)

pub feed-falls : (w : State) (b i : ℕ) → after w (event.Feed b i) ≡ feeds (block_at w.plan b) i w → IsTrue (enabled w (event.Feed b i)) → IsWeighed w → EachGoesOn w (after w (event.Feed b i)) →
    weight (after w (event.Feed b i)) < weight w
unfolding may
feed-falls w b i to may_it fit each =
    let fed = feeds-falls w (block_at w.plan b) i may_it in
    calm-falls w (event.Feed b i) fit each (subst (IsCalm w) (sym to) fed.calm) (subst (λ (u : State). work u < work w) (sym to) fed.work)

-- ---- hops

queue-front : (w : State) (q : ℕ) (e : Entry) (rest : List Entry) → queue_at w.queues q ≡ e ∷ rest → queued_at (front w) q ≡ queued e ∷ map queued rest
queue-front w q e rest is = fronts.queue w q ∙ ap (map queued) is

hop-unmarked : (w : State) (q : ℕ) (e : Entry) (rest : List Entry) → queue_at w.queues q ≡ e ∷ rest → IsTrue (enabled w (event.Hop q)) → e.marked ≡ false
unfolding may
hop-unmarked w q e rest is may_it =
    not-true e.marked (and_parts (not e.marked) (has_way (front w) (channel_of q) (passing w.tree w.nodes (link_of_queue q) e.packet).outcome)
    (subst (λ (es : List Queued). can_hop (front w) q es ≡ true) (queue-front w q e rest is) may_it)).0

pub hop-falls : (w : State) (q : ℕ) (e : Entry) (rest : List Entry) → queue_at w.queues q ≡ e ∷ rest → after w (event.Hop q) ≡ hops q (e ∷ rest) w → IsTrue (enabled w (event.Hop q)) → IsWeighed w → EachGoesOn w (after w (event.Hop q)) →
    weight (after w (event.Hop q)) < weight w
hop-falls w q e rest is to may_it fit each =
    calm-falls w (event.Hop q) fit each (subst (IsCalm w) (sym to) (calm-hops w q e rest is (hop-unmarked w q e rest is may_it)))
    (subst (λ (u : State). work u < work w) (sym to) (hop-work w q e rest fit.steady.queues is))

-- ---- losses

lose-marked : (w : State) (q : ℕ) (e : Entry) (rest : List Entry) → queue_at w.queues q ≡ e ∷ rest → IsTrue (enabled w (event.Lose q)) → e.marked ≡ true
unfolding may
lose-marked w q e rest is may_it = subst (λ (es : List Queued). can_lose es ≡ true) (queue-front w q e rest is) may_it

-- a stream that may lose an entry
at-stream : Option ℕ → ℕ
at-stream None = 0
at-stream (Some s) = s

counts-same : (st : Stream) → HasCounts st st
counts-same st = record { sent = omega arith; statuses = omega arith; commands = omega arith }

-- what is left where an entry is lost
record IsLost (w v : State) (s : ℕ) : Type 0 where
  grown : HasGrown w v
  marks : marks_left v + 1 ≤ marks_left w
  other : (t : ℕ) → (t ≡ s → ⊥) → stream_at v t ≡ stream_at w t
  work : work v ≤ work w

lost-by : (w : State) (q : ℕ) (e : Entry) (rest : List Entry) (o : Option ℕ) → queue_at w.queues q ≡ e ∷ rest → e.marked ≡ true → IsLost w (on_any_stream o (loses e) (leaves q rest w)) (at-stream o)
unfolding at-stream
lost-by w q e rest o is marked = by_stream o
  where
    marks : marks_left (leaves q rest w) + 1 ≤ marks_left w
    marks = one (marks_left (leaves q rest w)) (marks_left w) e.marked marked (marks-leave q e rest w is)
      where
        one : (a b : ℕ) (m : Bool) → m ≡ true → a + (if m then 1 else 0) ≤ b → a + 1 ≤ b
        one a b true m le = le
        one a b false m le = never m

    less : work (leaves q rest w) ≤ work w
    less = low (work (leaves q rest w)) (work w) _ (work-leaves q e rest w is)
      where
        low : (a b m : ℕ) → a + m ≤ b → a ≤ b
        low a b m le = omega arith

    by_stream : (o : Option ℕ) → IsLost w (on_any_stream o (loses e) (leaves q rest w)) (at-stream o)
    by_stream None = record {
      grown = record { streams = λ t. counts-same (stream_at w t); requests = omega arith; answers = omega arith; faults = refl };
      marks = marks;
      other = λ t ne. refl;
      work = less;
    }
    by_stream (Some s) = record {
      grown = record {
        streams = one-set (λ (t : ℕ) new old. HasCounts old new) w.streams w.streams idle idle (loses e (stream_at w s)) s (λ t. counts-same (stream_at w t))
            (record { sent = omega arith; statuses = omega arith; commands = omega arith });
        requests = omega arith;
        answers = omega arith;
        faults = refl;
      };
      marks = marks;
      other = λ t ne. get_or-set_other w.streams s t (loses e (stream_at w s)) idle ne;
      work = (let all = work-any_more (Some s) (loses e) 0 (leaves q rest w) (λ st. omega arith) in chain (work (on_any_stream (Some s) (loses e) (leaves q rest w))) (work (leaves q rest w)) (work w) all less);
    }
      where
        chain : (a b c : ℕ) → a ≤ b + 0 → b ≤ c → a ≤ c
        chain a b c p q = omega arith

pub lose-falls : (w : State) (q : ℕ) (e : Entry) (rest : List Entry) → queue_at w.queues q ≡ e ∷ rest → after w (event.Lose q) ≡ loses_front q (e ∷ rest) w → IsTrue (enabled w (event.Lose q)) → IsWeighed w →
    IsSteady (after w (event.Lose q)) → EachGoesOn w (after w (event.Lose q)) → weight (after w (event.Lose q)) < weight w
lose-falls w q e rest is to may_it fit steady each =
    let v = after w (event.Lose q) in
    let o = stream_of w e.packet e.packet.body in
    let s = at-stream o in
    let shape = shape_stays w (Happens (event.Lose q)) in
    let lost : IsLost w v s = subst (λ (u : State). IsLost w u s) (sym to) (lost-by w q e rest o is (lose-marked w q e rest is may_it)) in
    let faults = faults-stay w v lost.grown in
    let room = room-stays w v shape.plan shape.streams lost.grown in
    charge-falls w v shape.tree
    (charge-used w v (left (faults_left v) (faults_left w) (marks_left v) (marks_left w) (room_left v) (room_left w) faults lost.marks room)
    (potentials-rise w v s shape.streams
    (λ t lt ne. let same = lost.other t ne in
    potential-stays w v t lt fit.steady each (at-most (length (stream_at v t).sent) (length (stream_at w t).sent) (ap (λ (it : Stream). length it.sent) same)) (at-most (stream_at v t).losses (stream_at w t).losses (ap (λ (it : Stream). it.losses) same)))
    (λ lt. potential-low v s (steady.flows s (subst (λ (n : ℕ). s < n) (sym shape.streams) lt)))))
    (more (work v) (work w) (top_of w.tree) lost.work)
  where
    left : (a b c d m n : ℕ) → a ≤ b → c + 1 ≤ d → m ≤ n → a + c + m + 1 ≤ b + d + n
    left a b c d m n p q r = omega arith

    more : (a b top : ℕ) → a ≤ b → a ≤ b + (2 * top + 4)
    more a b top le = omega arith

    at-most : (a b : ℕ) → a ≡ b → a ≤ b
    at-most a b same = omega arith
