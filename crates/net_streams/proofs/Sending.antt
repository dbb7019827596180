-- Packets and statuses that enter are acts of their stream.
use Rattle.std.proofs.Common.{◌≡◌, ℕ, ◌+◌, ◌<◌, Bool, true, false, IsTrue, List, [], ◌∷◌, ◌++◌, length, refl, sym, ◌∙◌, ap, subst, append-nil, Option, None, Some}
use Rattle.std.specs.Prelude.{◌&&◌}
use Rattle.std.specs.List.{flat_map}
use Rattle.std.proofs.lemmas.Grind.{flat_map-append}
use Rattle.std.proofs.lemmas.List.{length-append, length-map, map-append}
use Rattle.chdr_packets.specs.Length.{wire_of}
use Rattle.chdr_packets.specs.declared.packet.Body.{Body}
use Rattle.chdr_packets.specs.declared.packet.Body.TheVariants as body
use Rattle.chdr_packets.specs.declared.packet.Packet.{Packet}
use Rattle.stream_endpoint.specs.Epochs.{Told, told_by}
use Rattle.stream_endpoint.specs.InEnd.{status_of}
use Rattle.stream_endpoint.specs.Receiver.{is_due}
use Rattle.stream_endpoint.specs.Sender.{may_send}
use Rattle.net_faults.specs.declared.fault.Fault.TheVariants as fault
use Rattle.endpoint_laws.proofs.Laws.{credit_is_tested}
use Rattle.stream_laws.specs.Acts.{after as act_after, Enter as Sends, Report as Reports}
use Rattle.stream_laws.specs.Effects.{enters_core, reports_core}
use Rattle.stream_laws.specs.Machine.{Core, Entry as Flight, Data, Load, State as OneStream}
use Rattle.net_machine.specs.declared.event.Event.TheVariants as event
use Rattle.net_machine.specs.declared.plan.StreamPlan.{StreamPlan}
use Rattle.net_machine.specs.Conditions.{can_send, enabled, may}
use Rattle.net_machine.specs.Effects.{after, enters, enters_over, on_stream}
use Rattle.net_machine.specs.Faults.{is_named}
use Rattle.net_machine.specs.Front.{StreamFront, stream_front}
use Rattle.net_machine.specs.Passing.{message}
use Rattle.net_machine.specs.Plain.{numbered_from}
use Rattle.net_machine.specs.Plans.{first_link, plan_at}
use Rattle.net_machine.specs.Queues.{back_vc, forward_vc}
use Rattle.net_machine.specs.State.{Entry, State, Stream, Sample, Report, stream_at}
use Rattle.net_machine.specs.Streams.{entering, receiving_of, sends_first, sends_status}
use Rattle.net_machine.proofs.Laws.{fronts}
use Rattle.net_ways.proofs.Laws.{enters_ahead, enters_back}
use Rattle.net_ways.specs.Entering.{JoinsAhead, JoinsBack}
use Rattle.net_ways.specs.Hops.{GoesAhead}
use Rattle.net_ways.specs.Ways.{ahead, back}
use Rattle.net_streams.specs.Acting.{EnterActs, ReportActs}
use Rattle.net_streams.specs.Shows.{Shows, core_of, flight_by, flight_of, load_of, loads_of, told_of, terms_of}
use Rattle.net_streams.proofs.Showing.{shown-by}

pub both : (a b : Bool) → IsTrue (a && b) → IsTrue a × IsTrue b
both true true h = (refl, refl)
both true false h = cc
both false b h = cc

-- a stream whose packet entered, and which changes
pub over-shown : (w : State) (s : ℕ) (closed : Bool) (next : Stream → Stream) (st : OneStream Packet) (o : Option ℕ) (vc : ℕ) (e : Entry) → s < length w.streams
    → st.core ≡ core_of (plan_at w.plan s) closed (next (stream_at w s))
    → st.forward ≡ flat_map flight_of (ahead (enters_over o vc e.marked e.packet e.tag w) s)
    → st.back ≡ flat_map told_of (back (enters_over o vc e.marked e.packet e.tag w) s)
    → Shows (on_stream s next (enters_over o vc e.marked e.packet e.tag w)) s closed st
over-shown w s closed next st None vc e there core forward back = shown-by w w s closed next st refl refl there core forward back
over-shown w s closed next st (Some d) vc e there core forward back =
    shown-by w (enters_over (Some d) vc e.marked e.packet e.tag w) s closed next st refl refl there core forward back

-- ---- samples

-- what a packet that enters is to its stream
data-of : (e : Entry) (b : Body) (time : Option ℕ) (payload : List ℕ) (place : ℕ) → b ≡ body.Samples time payload → e.tag ≡ Sample place →
    flight_by e.tag e.packet b ≡ Data place (load_of e.packet) ∷ []
data-of e b time payload place is tag = rw (is, tag) refl

-- the core of a stream that sent its first ready packet
core-sent : (plan : StreamPlan) (closed : Bool) (st : Stream) (p : Packet) (rest : List Packet) →
    enters_core (load_of (entering plan st.sender p)) (loads_of (numbered_from plan (length st.sent + 1) rest)) (core_of plan closed st)
    ≡ core_of plan closed (sends_first plan p rest st)
core-sent plan closed st p rest =
    let longer : length (st.sent ++ entering plan st.sender p ∷ []) ≡ length st.sent + 1 = length-append st.sent (entering plan st.sender p ∷ []) in
    rw (longer, map-append load_of st.sent (entering plan st.sender p ∷ [])) refl

may-enter : (w : State) (s : ℕ) (p : Packet) (rest : List Packet) → (stream_at w s).ready ≡ p ∷ rest → IsTrue (enabled w (event.Enter s)) →
    IsTrue (may_send (plan_at w.plan s).flow (stream_at w s).sender (wire_of p))
unfolding may
may-enter w s p rest ready may_it =
    let sent = (both _ _ may_it).0 in
    let here = subst (λ (t : StreamFront). IsTrue (can_send (plan_at w.plan s).flow t t.ready)) (fronts.stream w s) sent in
    subst (λ (r : List Packet). IsTrue (can_send (plan_at w.plan s).flow (stream_front (stream_at w s)) r)) ready here

pub enter_acts : EnterActs
unfolding after
enter_acts w s closed st p rest time payload shown forth may_it ready is_samples number =
    let plan = plan_at w.plan s in
    let old = stream_at w s in
    let shows = shown.shows in
    let load : Load Packet = load_of (entering plan old.sender p) in
    let more = loads_of (numbered_from plan (length old.sent + 1) rest) in
    let e : Entry = record { packet = entering plan old.sender p; marked = is_named w.faults (fault.Samples s (length old.sent)); tag = Sample (length old.sent) } in
    let count : length st.core.sent ≡ length old.sent = ap (λ (c : Core Packet). length c.sent) shows.core ∙ length-map old.sent load_of in
    let first : st.core.ready ≡ load ∷ more =
    ap (λ (c : Core Packet). c.ready) shows.core
    ∙ ap (λ (r : List Packet). loads_of (numbered_from plan (length old.sent) r)) ready
    ∙ ap (λ (n : ℕ). load_of (record p { vc = forward_vc; seq = n; dst = plan.to }) ∷ more) (sym number) in
    let tested : IsTrue (may_send plan.flow st.core.sender load.wire) =
    subst (λ (c : Core Packet). IsTrue (may_send plan.flow c.sender load.wire)) (sym shows.core) (may-enter w s p rest ready may_it) in
    let joined : JoinsAhead w (enters_over (first_link w.tree plan.from) forward_vc e.marked e.packet e.tag w) s e =
    enters_ahead w s e shown.queues forth (subst (λ (b : Body). GoesAhead b) (sym is_samples) tt) refl in
    let act = Sends load more in
    let core : (act_after (terms_of plan) st act).core ≡ core_of plan closed (sends_first plan p rest old) =
    ap (enters_core load more) shows.core ∙ core-sent plan closed old p rest in
    let forward : (act_after (terms_of plan) st act).forward ≡ flat_map flight_of (ahead (enters_over (first_link w.tree plan.from) forward_vc e.marked e.packet e.tag w) s) =
    ap (λ (k : ℕ). st.forward ++ Data k load ∷ []) count
    ∙ ap (λ (f : List (Flight Packet)). f ++ Data (length old.sent) load ∷ []) shows.forward
    ∙ ap (λ (f : List (Flight Packet)). flat_map flight_of (ahead w s) ++ f) (sym (data-of e p.body time payload (length old.sent) is_samples refl))
    ∙ sym (ap (λ (es : List Entry). flat_map flight_of es) joined.ahead ∙ flat_map-append flight_of (ahead w s) (e ∷ []) ∙ ap (λ (f : List (Flight Packet)). flat_map flight_of (ahead w s) ++ f) (append-nil (flight_of e))) in
    let behind : (act_after (terms_of plan) st act).back ≡ flat_map told_of (back (enters_over (first_link w.tree plan.from) forward_vc e.marked e.packet e.tag w) s) =
    shows.back ∙ ap (λ (es : List Entry). flat_map told_of es) (sym joined.back) in
    let shown_then : Shows (on_stream s (sends_first plan p rest) (enters_over (first_link w.tree plan.from) forward_vc e.marked e.packet e.tag w)) s closed (act_after (terms_of plan) st act) =
    over-shown w s closed (sends_first plan p rest) (act_after (terms_of plan) st act) (first_link w.tree plan.from) forward_vc e shown.there core forward behind in
    record {
      act = act;
      allowed = (first, (credit_is_tested plan.flow st.core.sender load.wire).0 tested);
      shows = subst (λ (r : List Packet). Shows (enters s r w) s closed (act_after (terms_of plan) st act)) (sym ready) shown_then;
    }

-- ---- statuses

may-report : (w : State) (s : ℕ) → IsTrue (enabled w (event.Report s)) → is_due (stream_at w s).receiver ≡ true
unfolding may
may-report w s may_it = subst (λ (t : StreamFront). IsTrue t.due) (fronts.stream w s) (both _ _ may_it).0

pub report_acts : ReportActs
unfolding after
report_acts w s closed st shown way may_it =
    let plan = plan_at w.plan s in
    let old = stream_at w s in
    let shows = shown.shows in
    let e : Entry = record { packet = message back_vc plan.from (body.Status (status_of (receiving_of plan old))); marked = is_named w.faults (fault.Status s old.statuses); tag = Report (told_by old.receiver) } in
    let joined : JoinsBack w (enters_over (first_link w.tree plan.to) back_vc e.marked e.packet e.tag w) s e = enters_back w s e shown.queues way tt refl in
    let core : reports_core st.core ≡ core_of plan closed (sends_status old) = ap reports_core shows.core in
    let forward : st.forward ≡ flat_map flight_of (ahead (enters_over (first_link w.tree plan.to) back_vc e.marked e.packet e.tag w) s) =
    shows.forward ∙ ap (λ (es : List Entry). flat_map flight_of es) (sym joined.ahead) in
    let behind : st.back ++ told_by st.core.receiver ∷ [] ≡ flat_map told_of (back (enters_over (first_link w.tree plan.to) back_vc e.marked e.packet e.tag w) s) =
    ap (λ (c : Core Packet). st.back ++ told_by c.receiver ∷ []) shows.core
    ∙ ap (λ (b : List Told). b ++ told_by old.receiver ∷ []) shows.back
    ∙ sym (ap (λ (es : List Entry). flat_map told_of es) joined.back ∙ flat_map-append told_of (back w s) (e ∷ [])) in
    record {
      act = Reports;
      allowed = ap (λ (c : Core Packet). is_due c.receiver) shows.core ∙ may-report w s may_it;
      shows = over-shown w s closed sends_status (act_after (terms_of plan) st Reports) (first_link w.tree plan.to) back_vc e shown.there core forward behind;
    }
