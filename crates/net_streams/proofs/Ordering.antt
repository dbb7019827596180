-- A command that enters is an act of its stream: a stream that the network finds quiet has nothing under way.
use Rattle.std.proofs.Common.{◌≡◌, ℕ, zero, suc, ◌==◌, ◌⊎◌, inl, inr, Bool, true, false, IsTrue, List, [], ◌∷◌, ◌++◌, length, map, refl, sym, ◌∙◌, ap, subst, Some}
use Rattle.std.specs.Prelude.{◌&&◌, ◌||◌, not}
use Rattle.std.specs.List.{flat_map, list_all}
use Rattle.std.proofs.lemmas.Bool.{eqb-true}
use Rattle.std.proofs.lemmas.Grind.{flat_map-append}
use Rattle.std.proofs.lemmas.List.{length-map}
use Rattle.chdr_packets.specs.Length.{wire_of}
use Rattle.chdr_packets.specs.declared.packet.Body.{Body}
use Rattle.chdr_packets.specs.declared.packet.Body.TheVariants as body
use Rattle.chdr_packets.specs.declared.packet.Packet.{Packet}
use Rattle.chdr_words.specs.declared.command.CmdOp.{CmdOp}
use Rattle.chdr_words.specs.declared.command.CmdOp.TheVariants.{Init, Ping, Resync, Other}
use Rattle.chdr_words.specs.declared.epid.Epid.{Epid}
use Rattle.endpoint_laws.proofs.Laws.{stuck_is_tested}
use Rattle.stream_endpoint.specs.Epochs.{ordered_by}
use Rattle.stream_endpoint.specs.Orders.{MayOrder as MayOrderWhen}
use Rattle.stream_endpoint.specs.OutEnd.{command_of}
use Rattle.stream_endpoint.specs.Counts.{is_none}
use Rattle.stream_endpoint.specs.Receiver.{is_due}
use Rattle.stream_endpoint.specs.Sender.{is_running}
use Rattle.net_faults.specs.declared.fault.Fault.TheVariants as fault
use Rattle.stream_endpoint.specs.declared.flow.Flow.{Flow}
use Rattle.stream_endpoint.specs.declared.state.OutState.{OutState}
use Rattle.stream_endpoint.specs.declared.state.OutState.TheVariants.{Opening, Running, Halted, Resyncing}
use Rattle.stream_laws.specs.Acts.{IsQuiet, IsStuck, MayOrder, Order as Orders, after as act_after}
use Rattle.stream_laws.specs.Effects.{orders_core}
use Rattle.stream_laws.specs.Machine.{Core, Entry as Flight, Command as Ordered, State as OneStream}
use Rattle.net_machine.specs.declared.event.Event.TheVariants as event
use Rattle.net_machine.specs.declared.plan.StreamPlan.{StreamPlan}
use Rattle.net_machine.specs.Blocks.{is_closed}
use Rattle.net_machine.specs.Conditions.{can_order, enabled, has_place_from, is_of, is_opening, is_quiet, is_resyncing, is_stuck, may, none_under_way}
use Rattle.net_machine.specs.Effects.{after, enters_over}
use Rattle.net_machine.specs.Faults.{is_named}
use Rattle.net_machine.specs.Front.{Front, Queued, StreamFront, front, front_at, queued, stream_front}
use Rattle.net_machine.specs.Passing.{message}
use Rattle.net_machine.specs.Plain.{numbered_from}
use Rattle.net_machine.specs.Plans.{first_link, plan_at}
use Rattle.net_machine.specs.Queues.{forward_vc}
use Rattle.net_machine.specs.State.{Entry, State, Stream, Order, queue_at, stream_at}
use Rattle.net_machine.specs.Streams.{sending_of, sends_order}
use Rattle.net_machine.proofs.Laws.{fronts}
use Rattle.net_ways.proofs.Laws.{enters_ahead}
use Rattle.net_ways.specs.Entering.{JoinsAhead}
use Rattle.net_ways.specs.Gather.{gather, list_at}
use Rattle.net_ways.specs.Ways.{ahead, back, back_way, forward_way, is_ahead, is_back, pick_ahead, pick_back, picked}
use Rattle.net_streams.specs.Making.{CommandActs}
use Rattle.net_streams.specs.Shows.{Shows, flight_of, load_of, loads_of, told_of, terms_of}
use Rattle.net_streams.proofs.Sending.{both, over-shown}

-- ---- nothing is under way

none-by : (test : Bool) (e : Entry) → IsTrue (not test) → picked test e ≡ []
none-by true e h = cc
none-by false e h = refl

-- an entry that isn't of a stream is picked neither way
picks-none : (plan : StreamPlan) (dst : Epid) (b : Body) (e : Entry) → IsTrue (not (is_of plan dst b)) →
    (picked (is_ahead plan dst b) e ≡ []) × (picked (is_back plan dst b) e ≡ [])
picks-none plan dst (body.Samples time payload) e h = (none-by (dst.0 == plan.to.0) e h, refl)
picks-none plan dst (body.Command c) e h = (none-by (dst.0 == plan.to.0) e h, refl)
picks-none plan dst (body.Status status) e h = (refl, none-by (dst.0 == plan.from.0) e h)
picks-none plan dst (body.Control control) e h = (refl, refl)
picks-none plan dst (body.Management m) e h = (refl, refl)

abbrev has_none : StreamPlan → List Queued → Bool
has_none plan es = list_all (λ (e : Queued). not (is_of plan e.packet.dst e.packet.body)) es

picks-nothing : (plan : StreamPlan) (es : List Entry) → IsTrue (has_none plan (map queued es)) →
    (flat_map (pick_ahead plan) es ≡ []) × (flat_map (pick_back plan) es ≡ [])
picks-nothing plan [] h = (refl, refl)
picks-nothing plan (e ∷ es) h =
    let parts = both (not (is_of plan e.packet.dst e.packet.body)) (has_none plan (map queued es)) h in
    let here = picks-none plan e.packet.dst e.packet.body e parts.0 in
    let rest = picks-nothing plan es parts.1 in
    (ap (λ (xs : List Entry). xs ++ flat_map (pick_ahead plan) es) here.0 ∙ rest.0, ap (λ (xs : List Entry). xs ++ flat_map (pick_back plan) es) here.1 ∙ rest.1)

each-queue : (plan : StreamPlan) (queues : List (List Entry)) → IsTrue (none_under_way (map (map queued) queues) plan) → (q : ℕ) → IsTrue (has_none plan (map queued (queue_at queues q)))
each-queue plan [] h q = refl
each-queue plan (es ∷ queues) h zero = (both (has_none plan (map queued es)) (none_under_way (map (map queued) queues) plan) h).0
each-queue plan (es ∷ queues) h (suc q) = each-queue plan queues (both (has_none plan (map queued es)) (none_under_way (map (map queued) queues) plan) h).1 q

gathers-none : (pick : Entry → List Entry) (queues : List (List Entry)) (qs : List ℕ) → ((q : ℕ) → flat_map pick (list_at queues q) ≡ []) → gather pick queues qs ≡ []
gathers-none pick queues [] none = refl
gathers-none pick queues (q ∷ qs) none =
    ap (λ (es : List Entry). es ++ flat_map pick (list_at queues q)) (gathers-none pick queues qs none) ∙ none q

-- ---- the conditions

not-true : (b : Bool) → IsTrue (not b) → b ≡ false
not-true true h = cc
not-true false h = refl

quiet-shown : (w : State) (s : ℕ) (closed : Bool) (st : OneStream Packet) → Shows w s closed st → IsTrue (is_quiet (front w) s) → IsQuiet st
quiet-shown w s closed st shows h =
    let plan = plan_at w.plan s in
    let old = stream_at w s in
    let here : IsTrue (none_under_way (map (map queued) w.queues) plan && (not (is_due old.receiver) && (old.taken == length old.given))) =
    subst (λ (t : StreamFront). IsTrue (none_under_way (map (map queued) w.queues) plan && (not t.due && (t.taken == t.given)))) (fronts.stream w s) h in
    let parts = both (none_under_way (map (map queued) w.queues) plan) (not (is_due old.receiver) && (old.taken == length old.given)) here in
    let ends = both (not (is_due old.receiver)) (old.taken == length old.given) parts.1 in
    let none = each-queue plan w.queues parts.0 in
    let no_ahead : ahead w s ≡ [] =
    gathers-none (pick_ahead plan) w.queues (forward_way w.tree plan) (λ q. (picks-nothing plan (queue_at w.queues q) (none q)).0) in
    let no_back : back w s ≡ [] =
    gathers-none (pick_back plan) w.queues (back_way w.tree plan) (λ q. (picks-nothing plan (queue_at w.queues q) (none q)).1) in
    record {
      none_forward = shows.forward ∙ ap (λ (es : List Entry). flat_map flight_of es) no_ahead;
      none_back = shows.back ∙ ap (λ (es : List Entry). flat_map told_of es) no_back;
      none_due = ap (λ (c : Core Packet). is_due c.receiver) shows.core ∙ not-true (is_due old.receiver) ends.0;
      all_taken = ap (λ (c : Core Packet). c.taken) shows.core ∙ eqb-true old.taken (length old.given) ends.1
          ∙ sym (ap (λ (c : Core Packet). length c.given) shows.core ∙ length-map old.given load_of);
    }

stuck-shown : (flow : Flow) (t : StreamFront) (plan : StreamPlan) (closed : Bool) (place : ℕ) (ready : List Packet) → IsTrue (is_stuck flow t closed ready) →
    IsStuck flow t.outstanding closed (loads_of (numbered_from plan place ready))
stuck-shown flow t plan closed place [] h = h
stuck-shown flow t plan closed place (p ∷ ps) h = (stuck_is_tested flow t.outstanding closed (Some (wire_of p))).0 h

opening-is : (o : OutState) → IsTrue (is_opening o) → o ≡ Opening
opening-is Opening h = refl
opening-is Running h = cc
opening-is Halted h = cc
opening-is Resyncing h = cc

running-is : (o : OutState) → IsTrue (is_running o) → o ≡ Running
running-is Opening h = cc
running-is Running h = refl
running-is Halted h = cc
running-is Resyncing h = cc

resyncing-is : (o : OutState) → IsTrue (is_resyncing o) → o ≡ Resyncing
resyncing-is Opening h = cc
resyncing-is Running h = cc
resyncing-is Halted h = cc
resyncing-is Resyncing h = refl

-- no command was sent, or the stream is quiet
may-repeat : (Quiet : Type 0) (commanded quiet : Bool) → (IsTrue quiet → Quiet) → IsTrue (not commanded || quiet) → (commanded ≡ false) ⊎ Quiet
may-repeat Quiet true quiet is h = inr (is h)
may-repeat Quiet false quiet is h = inl refl

-- what the network tests of the end of a stream, where it finds it quiet or not
abbrev may_by : Flow → StreamFront → Bool → Bool → CmdOp → Bool
may_by flow t quiet closed Init = is_opening t.state && (not t.commanded || quiet)
may_by flow t quiet closed Ping = is_running t.state && (quiet && (not (is_none t.outstanding) && is_stuck flow t closed t.ready))
may_by flow t quiet closed Resync = is_resyncing t.state && (not t.commanded || quiet)
may_by flow t quiet closed (Other code) = false

tests-are : (f : Front) (s : ℕ) (op : CmdOp) → IsTrue (can_order f s op) → IsTrue (may_by (plan_at f.plan s).flow (front_at f s) (is_quiet f s) (is_closed f s) op)
tests-are f s Init h = h
tests-are f s Ping h = h
tests-are f s Resync h = h
tests-are f s (Other code) h = h

may-order : (plan : StreamPlan) (old : Stream) (quiet closed : Bool) (Quiet : Type 0) (op : CmdOp) → (IsTrue quiet → Quiet) →
    IsTrue (may_by plan.flow (stream_front old) quiet closed op) →
    MayOrderWhen old.sender Quiet (IsStuck plan.flow old.sender.outstanding closed (loads_of (numbered_from plan (length old.sent) old.ready))) op
may-order plan old quiet closed Quiet Init is h =
    let parts = both (is_opening old.sender.state) (not old.sender.commanded || quiet) h in
    (opening-is old.sender.state parts.0, may-repeat Quiet old.sender.commanded quiet is parts.1)
may-order plan old quiet closed Quiet Resync is h =
    let parts = both (is_resyncing old.sender.state) (not old.sender.commanded || quiet) h in
    (resyncing-is old.sender.state parts.0, may-repeat Quiet old.sender.commanded quiet is parts.1)
may-order plan old quiet closed Quiet Ping is h =
    let stuck = is_stuck plan.flow (stream_front old) closed old.ready in
    let parts = both (is_running old.sender.state) (quiet && (not (is_none old.sender.outstanding) && stuck)) h in
    let more = both quiet (not (is_none old.sender.outstanding) && stuck) parts.1 in
    let ends = both (not (is_none old.sender.outstanding)) stuck more.1 in
    record {
      running = running-is old.sender.state parts.0;
      quiet = is more.0;
      not_covered = not-true (is_none old.sender.outstanding) ends.0;
      stuck = stuck-shown plan.flow (stream_front old) plan closed (length old.sent) old.ready ends.1;
    }
may-order plan old quiet closed Quiet (Other code) is h = cc

may-command : (w : State) (s : ℕ) (op : CmdOp) (st : OneStream Packet) → Shows w s (is_closed (front w) s) st → IsTrue (enabled w (event.Command s op)) →
    MayOrder (terms_of (plan_at w.plan s)) st op
unfolding may
may-command w s op st shows may_it =
    let plan = plan_at w.plan s in
    let tests = tests-are (front w) s op (both (can_order (front w) s op) (has_place_from (front w) forward_vc plan.from) may_it).0 in
    let here = subst (λ (t : StreamFront). IsTrue (may_by plan.flow t (is_quiet (front w) s) (is_closed (front w) s) op)) (fronts.stream w s) tests in
    subst (λ (c : Core Packet). MayOrderWhen c.sender (IsQuiet st) (IsStuck plan.flow c.sender.outstanding c.closed c.ready) op) (sym shows.core)
    (may-order plan (stream_at w s) (is_quiet (front w) s) (is_closed (front w) s) (IsQuiet st) op (quiet-shown w s (is_closed (front w) s) st shows) here)

pub command_acts : CommandActs
unfolding after
command_acts w s op st shown way may_it =
    let plan = plan_at w.plan s in
    let old = stream_at w s in
    let shows = shown.shows in
    let closed = is_closed (front w) s in
    let counts = ordered_by plan.flow old.sender op in
    let e : Entry = record { packet = message forward_vc plan.to (body.Command (command_of op (sending_of plan old))); marked = is_named w.faults (fault.Command s old.commands); tag = Order counts } in
    let joined : JoinsAhead w (enters_over (first_link w.tree plan.from) forward_vc e.marked e.packet e.tag w) s e = enters_ahead w s e shown.queues way tt refl in
    let forward : st.forward ++ Ordered op (ordered_by plan.flow st.core.sender op) ∷ [] ≡ flat_map flight_of (ahead (enters_over (first_link w.tree plan.from) forward_vc e.marked e.packet e.tag w) s) =
    ap (λ (c : Core Packet). st.forward ++ Ordered op (ordered_by plan.flow c.sender op) ∷ []) shows.core
    ∙ ap (λ (f : List (Flight Packet)). f ++ Ordered op counts ∷ []) shows.forward
    ∙ sym (ap (λ (es : List Entry). flat_map flight_of es) joined.ahead ∙ flat_map-append flight_of (ahead w s) (e ∷ [])) in
    let behind : st.back ≡ flat_map told_of (back (enters_over (first_link w.tree plan.from) forward_vc e.marked e.packet e.tag w) s) =
    shows.back ∙ ap (λ (es : List Entry). flat_map told_of es) (sym joined.back) in
    record {
      act = Orders op;
      allowed = may-command w s op st shows may_it;
      shows = over-shown w s closed (sends_order op) (act_after (terms_of plan) st (Orders op)) (first_link w.tree plan.from) forward_vc e shown.there
          (ap (orders_core op) shows.core) forward behind;
    }
