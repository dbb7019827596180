-- Where no event is enabled nothing is under way or due, and no sender may do anything.
use Rattle.std.proofs.Common.{◌≡◌, ℕ, suc, ◌==◌, inl, inr, Bool, true, false, List, [], ◌∷◌, ◌++◌, length, map, Option, Some, refl, sym, ◌∙◌, ap, subst, arith, eq-eqb}
use Rattle.std.specs.Prelude.{◌&&◌, ◌||◌, not, nat_lt}
use Rattle.std.specs.List.{flat_map, list_all}
use Rattle.std.proofs.lemmas.Bool.{and_from, false_from_ne_true, lt-ltb, or_right, both_ways}
use Rattle.std.proofs.lemmas.List.{get_or_default, length-map}
use Rattle.chdr_packets.specs.Length.{wire_of}
use Rattle.chdr_packets.specs.declared.packet.Packet.{Packet}
use Rattle.chdr_words.specs.declared.command.CmdOp.{CmdOp}
use Rattle.chdr_words.specs.declared.command.CmdOp.TheVariants.{Init, Ping, Resync, Other}
use Rattle.chdr_words.specs.declared.epid.Epid.{Epid}
use Rattle.endpoint_laws.proofs.Laws.{credit_is_tested, stuck_is_tested}
use Rattle.stream_endpoint.specs.Counts.{is_none}
use Rattle.stream_endpoint.specs.Flow.{has_room}
use Rattle.stream_endpoint.specs.Orders.{MayOrder as MayOrderWhen}
use Rattle.stream_endpoint.specs.Receiver.{is_due}
use Rattle.stream_endpoint.specs.Sender.{MaySend, is_running}
use Rattle.stream_endpoint.specs.declared.flow.Flow.{Flow}
use Rattle.stream_laws.specs.Acts.{Allowed, IsQuiet, IsStuck, Enter as Enters, Order as Orders}
use Rattle.stream_laws.specs.Machine.{Core, Load, State as OneStream}
use Rattle.net_machine.specs.declared.event.Event.TheVariants as event
use Rattle.net_machine.specs.declared.plan.StreamPlan.{StreamPlan}
use Rattle.net_machine.specs.Blocks.{is_closed}
use Rattle.net_machine.specs.Conditions.{can_order, can_send, enabled, has_place, has_place_from, has_place_over, is_of, is_opening, is_quiet, is_resyncing, is_stuck, may, none_under_way}
use Rattle.net_machine.specs.Front.{Front, Queued, StreamFront, front, front_at, queued, queued_at, stream_front}
use Rattle.net_machine.specs.Moves.{IsStill}
use Rattle.net_machine.specs.Plain.{numbered_from}
use Rattle.net_machine.specs.Plans.{plan_at}
use Rattle.net_machine.specs.Queues.{back_vc, forward_vc, queue_of}
use Rattle.net_machine.specs.State.{Entry, State, Stream, queue_at, stream_at}
use Rattle.net_machine.proofs.Laws.{fronts}
use Rattle.net_ways.proofs.Laws.{channels_go_on, ways_begin}
use Rattle.net_ways.specs.Gather.{gather, list_at}
use Rattle.net_ways.specs.Standing.{HasWays}
use Rattle.net_ways.specs.Ways.{HasQueues, IsLedTo, ahead, back, back_way, forward_way, pick_ahead, pick_back}
use Rattle.net_streams.specs.Shows.{Shows, flight_of, load_of, loads_of, terms_of, told_of}
use Rattle.net_ends.specs.Rest.{StillIsEmpty}

-- ---- queues

queue-empty : (w : State) → HasQueues w → IsStill w → (q : ℕ) → queue_at w.queues q ≡ []
queue-empty w has still q = by_queue (queue_at w.queues q) refl
  where
    moves : (e : Entry) (rest : List Entry) → queue_at w.queues q ≡ e ∷ rest → ⊥
    moves e rest is = let goes = channels_go_on w q e rest has is in
        elim goes.enabled [
          | inl hops ↦ both_ways (enabled w (event.Hop goes.queue)) (still (event.Hop goes.queue)) hops
          | inr loses ↦ both_ways (enabled w (event.Lose goes.queue)) (still (event.Lose goes.queue)) loses
        ]

    by_queue : (es : List Entry) → queue_at w.queues q ≡ es → es ≡ []
    by_queue [] is = refl
    by_queue (e ∷ rest) is = absurd (moves e rest is)

pub still-empty : StillIsEmpty
still-empty w has still = λ q d lt. get_or_default w.queues q d [] lt ∙ queue-empty w has still q

-- nothing is picked along empty queues
gathers-none : (pick : Entry → List Entry) (queues : List (List Entry)) (qs : List ℕ) → ((q : ℕ) → list_at queues q ≡ []) → gather pick queues qs ≡ []
gathers-none pick queues [] none = refl
gathers-none pick queues (q ∷ qs) none =
    ap (λ (es : List Entry). es ++ flat_map pick (list_at queues q)) (gathers-none pick queues qs none) ∙ ap (λ (es : List Entry). flat_map pick es) (none q)

-- an empty queue has room
has-room : (w : State) → HasQueues w → IsStill w → (q : ℕ) → has_place (front w) q ≡ true
has-room w has still q =
    let shown : queued_at (front w) q ≡ [] = fronts.queue w q ∙ ap (map queued) (queue-empty w has still q) in
    ap (λ (es : List Queued). nat_lt (length es) w.tree.room) shown ∙ (let low = has.tree.room.0 in lt-ltb 0 w.tree.room (omega (arith, low)))

-- so has the first one of a way
way-room : (w : State) (a b : Epid) (vc : ℕ) → HasQueues w → IsStill w → IsLedTo w a b → has_place_from (front w) vc a ≡ true
way-room w a b vc has still leads =
    let begins = ways_begin w a b vc has leads in
    ap (λ (o : Option ℕ). has_place_over (front w) vc o) begins.first ∙ has-room w has still (queue_of begins.link vc)

-- ---- what is under way and due

none-ahead : (w : State) (s : ℕ) → HasQueues w → IsStill w → ahead w s ≡ []
none-ahead w s has still = gathers-none (pick_ahead (plan_at w.plan s)) w.queues (forward_way w.tree (plan_at w.plan s)) (queue-empty w has still)

none-back : (w : State) (s : ℕ) → HasQueues w → IsStill w → back w s ≡ []
none-back w s has still = gathers-none (pick_back (plan_at w.plan s)) w.queues (back_way w.tree (plan_at w.plan s)) (queue-empty w has still)

none-due : (w : State) (s : ℕ) → HasQueues w → HasWays w s → IsStill w → is_due (stream_at w s).receiver ≡ false
unfolding may
none-due w s has ways still = false_from_ne_true (is_due (stream_at w s).receiver) (λ due. both_ways (enabled w (event.Report s)) (still (event.Report s))
    (and_from (front_at (front w) s).due (has_place_from (front w) back_vc (plan_at w.plan s).to) (ap (λ (t : StreamFront). t.due) (fronts.stream w s) ∙ due)
    (way-room w (plan_at w.plan s).to (plan_at w.plan s).from back_vc has still ways.back)))

-- a stream of which all is taken shows so, and is quiet
pub quiet-shown : (w : State) (s : ℕ) (closed : Bool) (st : OneStream Packet) → HasQueues w → HasWays w s → IsStill w → (stream_at w s).taken ≡ length (stream_at w s).given → Shows w s closed st → IsQuiet st
quiet-shown w s closed st has ways still taken shows = record {
  none_forward = shows.forward ∙ ap (λ (es : List Entry). flat_map flight_of es) (none-ahead w s has still);
  none_back = shows.back ∙ ap (λ (es : List Entry). flat_map told_of es) (none-back w s has still);
  none_due = ap (λ (c : Core Packet). is_due c.receiver) shows.core ∙ none-due w s has ways still;
  all_taken = ap (λ (c : Core Packet). c.taken) shows.core ∙ taken ∙ sym (ap (λ (c : Core Packet). length c.given) shows.core ∙ length-map (stream_at w s).given load_of);
}

none-of : (plan : StreamPlan) (queues : List (List Entry)) → ((q : ℕ) → queue_at queues q ≡ []) → none_under_way (map (map queued) queues) plan ≡ true
none-of plan [] none = refl
none-of plan (es ∷ queues) none =
    and_from (list_all (λ (e : Queued). not (is_of plan e.packet.dst e.packet.body)) (map queued es)) (none_under_way (map (map queued) queues) plan)
    (ap (λ (fs : List Entry). list_all (λ (e : Queued). not (is_of plan e.packet.dst e.packet.body)) (map queued fs)) (none 0)) (none-of plan queues (λ q. none (suc q)))

-- the network finds it quiet
quiet-tested : (w : State) (s : ℕ) → HasQueues w → HasWays w s → IsStill w → (stream_at w s).taken ≡ length (stream_at w s).given → is_quiet (front w) s ≡ true
quiet-tested w s has ways still taken =
    let old = stream_at w s in
    let here : (none_under_way (map (map queued) w.queues) (plan_at w.plan s) && (not (is_due old.receiver) && (old.taken == length old.given))) ≡ true =
    and_from (none_under_way (map (map queued) w.queues) (plan_at w.plan s)) (not (is_due old.receiver) && (old.taken == length old.given)) (none-of (plan_at w.plan s) w.queues (queue-empty w has still))
    (and_from (not (is_due old.receiver)) (old.taken == length old.given) (ap not (none-due w s has ways still)) (eq-eqb old.taken (length old.given) taken)) in
    subst (λ (t : StreamFront). (none_under_way (map (map queued) w.queues) (plan_at w.plan s) && (not t.due && (t.taken == t.given))) ≡ true) (sym (fronts.stream w s)) here

-- ---- no packet may be sent

record HasFirst (plan : StreamPlan) (place : ℕ) (ready : List Packet) (wire : ℕ) : Type 0 where
  packet : Packet
  rest : List Packet
  is : ready ≡ packet ∷ rest
  same : wire_of packet ≡ wire

abbrev wire-first : List (Load Packet) → ℕ
wire-first [] = 0
wire-first (l ∷ ls) = l.wire

first-ready : (plan : StreamPlan) (place : ℕ) (ready : List Packet) (load : Load Packet) (rest : List (Load Packet)) → loads_of (numbered_from plan place ready) ≡ load ∷ rest → HasFirst plan place ready load.wire
first-ready plan place [] load rest is = let z : ◌≡◌ {A = List (Load Packet)} [] (load ∷ rest) = is in cc
first-ready plan place (p ∷ ps) load rest is = record {
  packet = p;
  rest = ps;
  is = refl;
  same = ap wire-first is;
}

pub no-enter : (w : State) (s : ℕ) (closed : Bool) (st : OneStream Packet) → HasQueues w → HasWays w s → IsStill w → Shows w s closed st →
    (load : Load Packet) (rest : List (Load Packet)) → Allowed (terms_of (plan_at w.plan s)) st (Enters load rest) → ⊥
unfolding may
no-enter w s closed st has ways still shows load rest may_it =
    let plan = plan_at w.plan s in
    let old = stream_at w s in
    let first = first-ready plan (length old.sent) old.ready load rest (sym (ap (λ (c : Core Packet). c.ready) shows.core) ∙ may_it.0) in
    let sends : MaySend plan.flow old.sender load.wire = subst (λ (c : Core Packet). MaySend plan.flow c.sender load.wire) shows.core may_it.1 in
    let tested : (is_running old.sender.state && has_room plan.flow old.sender.outstanding load.wire) ≡ true = (credit_is_tested plan.flow old.sender load.wire).1 sends in
    let sent : can_send plan.flow (stream_front old) (first.packet ∷ first.rest) ≡ true =
    subst (λ (n : ℕ). (is_running old.sender.state && has_room plan.flow old.sender.outstanding n) ≡ true) (sym first.same) tested in
    let here : can_send plan.flow (stream_front old) old.ready ≡ true = subst (λ (ps : List Packet). can_send plan.flow (stream_front old) ps ≡ true) (sym first.is) sent in
    let shown : can_send plan.flow (front_at (front w) s) (front_at (front w) s).ready ≡ true =
    subst (λ (t : StreamFront). can_send plan.flow t t.ready ≡ true) (sym (fronts.stream w s)) here in
    both_ways (enabled w (event.Enter s)) (still (event.Enter s))
    (and_from (can_send plan.flow (front_at (front w) s) (front_at (front w) s).ready) (has_place_from (front w) forward_vc plan.from) shown (way-room w plan.from plan.to forward_vc has still ways.forth))

-- ---- no command may be given

stuck-tested : (flow : Flow) (t : StreamFront) (plan : StreamPlan) (closed : Bool) (place : ℕ) (ready : List Packet) → IsStuck flow t.outstanding closed (loads_of (numbered_from plan place ready)) →
    is_stuck flow t closed ready ≡ true
stuck-tested flow t plan closed place [] h = h
stuck-tested flow t plan closed place (p ∷ ps) h = (stuck_is_tested flow t.outstanding closed (Some (wire_of p))).1 h

order-tested : (plan : StreamPlan) (f : Front) (s : ℕ) (old : Stream) (closed : Bool) (Quiet : Type 0) (op : CmdOp) → plan_at f.plan s ≡ plan → front_at f s ≡ stream_front old → is_closed f s ≡ closed → is_quiet f s ≡ true →
    MayOrderWhen old.sender Quiet (IsStuck plan.flow old.sender.outstanding closed (loads_of (numbered_from plan (length old.sent) old.ready))) op → can_order f s op ≡ true
order-tested plan f s old closed Quiet Init of shown is quiet h =
    and_from (is_opening (front_at f s).state) (not (front_at f s).commanded || is_quiet f s) (ap (λ (t : StreamFront). is_opening t.state) shown ∙ ap is_opening h.0) (or_right (not (front_at f s).commanded) (is_quiet f s) quiet)
order-tested plan f s old closed Quiet Resync of shown is quiet h =
    and_from (is_resyncing (front_at f s).state) (not (front_at f s).commanded || is_quiet f s) (ap (λ (t : StreamFront). is_resyncing t.state) shown ∙ ap is_resyncing h.0) (or_right (not (front_at f s).commanded) (is_quiet f s) quiet)
order-tested plan f s old closed Quiet Ping of shown is quiet h =
    let stuck : is_stuck (plan_at f.plan s).flow (front_at f s) (is_closed f s) (front_at f s).ready ≡ true =
    ap (λ (p : StreamPlan). is_stuck p.flow (front_at f s) (is_closed f s) (front_at f s).ready) of
    ∙ ap (λ (t : StreamFront). is_stuck plan.flow t (is_closed f s) t.ready) shown
    ∙ ap (λ (b : Bool). is_stuck plan.flow (stream_front old) b old.ready) is
    ∙ stuck-tested plan.flow (stream_front old) plan closed (length old.sent) old.ready h.stuck in
    and_from (is_running (front_at f s).state) (is_quiet f s && (not (is_none (front_at f s).outstanding) && is_stuck (plan_at f.plan s).flow (front_at f s) (is_closed f s) (front_at f s).ready))
    (ap (λ (t : StreamFront). is_running t.state) shown ∙ ap is_running h.running)
    (and_from (is_quiet f s) (not (is_none (front_at f s).outstanding) && is_stuck (plan_at f.plan s).flow (front_at f s) (is_closed f s) (front_at f s).ready) quiet
    (and_from (not (is_none (front_at f s).outstanding)) (is_stuck (plan_at f.plan s).flow (front_at f s) (is_closed f s) (front_at f s).ready)
    (ap (λ (t : StreamFront). not (is_none t.outstanding)) shown ∙ ap not h.not_covered) stuck))
order-tested plan f s old closed Quiet (Other code) of shown is quiet h = absurd h

pub no-order : (w : State) (s : ℕ) (st : OneStream Packet) → HasQueues w → HasWays w s → IsStill w → (stream_at w s).taken ≡ length (stream_at w s).given → Shows w s (is_closed (front w) s) st →
    (op : CmdOp) → Allowed (terms_of (plan_at w.plan s)) st (Orders op) → ⊥
unfolding may
no-order w s st has ways still taken shows op may_it =
    let plan = plan_at w.plan s in
    let given = subst (λ (c : Core Packet). MayOrderWhen c.sender (IsQuiet st) (IsStuck plan.flow c.sender.outstanding c.closed c.ready) op) shows.core may_it in
    let test = order-tested plan (front w) s (stream_at w s) (is_closed (front w) s) (IsQuiet st) op refl (fronts.stream w s) refl (quiet-tested w s has ways still taken) given in
    both_ways (enabled w (event.Command s op)) (still (event.Command s op))
    (and_from (can_order (front w) s op) (has_place_from (front w) forward_vc plan.from) test (way-room w plan.from plan.to forward_vc has still ways.forth))
