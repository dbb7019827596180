-- What enters, and what is taken at an Rx: each keeps what holds of a network's streams.
use Rattle.std.proofs.Common.{◌≡◌, ◌≢◌, ℕ, ◌+◌, ◌<◌, ◌≤◌, ◌⊎◌, inl, inr, Bool, true, false, IsTrue, List, [], ◌∷◌, length, refl, sym, ◌∙◌, ap, subst}
use Rattle.std.specs.Prelude.{Option, None, Some, ◌&&◌, not}
use Rattle.std.specs.List.{All, AllByRecursion}
use Rattle.std.proofs.lemmas.Bool.{cases_lt, false≢true}
use Rattle.std.proofs.lemmas.List.{get_or_past, length-map}
use Rattle.std.proofs.lemmas.List.Elements.{All-head, All-rest}
use Rattle.block_library.proofs.Laws.{within_is_of_all}
use Rattle.block_library.specs.Blocks.{HoldsSamples}
use Rattle.chdr_packets.specs.declared.packet.Body.{Body}
use Rattle.chdr_packets.specs.declared.packet.Body.TheVariants as body
use Rattle.chdr_packets.specs.declared.packet.Packet.{Packet}
use Rattle.chdr_words.specs.declared.command.CmdOp.{CmdOp}
use Rattle.chdr_words.specs.declared.command.CmdOp.TheVariants.{Init, Ping, Resync, Other}
use Rattle.stream_endpoint.specs.Epochs.{ordered_by, told_by}
use Rattle.stream_endpoint.specs.InEnd.{status_of}
use Rattle.stream_endpoint.specs.OutEnd.{command_of}
use Rattle.stream_endpoint.specs.Sender.{next_number}
use Rattle.net_faults.specs.declared.fault.Fault.TheVariants as fault
use Rattle.stream_laws.proofs.Laws.{numbers_go_on}
use Rattle.stream_laws.specs.Laws.{IsRun}
use Rattle.stream_laws.specs.Machine.{Core, State as OneStream, number_at}
use Rattle.net_machine.specs.declared.event.Event.TheVariants as event
use Rattle.net_machine.specs.declared.plan.RunPlan.{RunPlan}
use Rattle.net_machine.specs.Blocks.{has_packet, is_closed}
use Rattle.net_machine.specs.Conditions.{can_order, enabled, has_place_from, may}
use Rattle.net_machine.specs.Effects.{after, asks_first, enters, enters_over, on_node, on_stream, replies_first}
use Rattle.net_machine.specs.Faults.{is_named}
use Rattle.net_machine.specs.Front.{StreamFront, front, front_at, stream_front}
use Rattle.net_machine.specs.Nodes.{route_from}
use Rattle.net_machine.specs.Passing.{message}
use Rattle.net_machine.specs.Plans.{first_link, plan_at}
use Rattle.net_machine.specs.Queues.{back_vc, forward_vc, queue_of}
use Rattle.net_machine.specs.State.{Entry, Message, Node, Order, Report, Sample, State, Stream, idle, node_at, stream_at}
use Rattle.net_machine.specs.Streams.{entering, receiving_of, sending_of, sends_first, sends_order, sends_status, taken_to}
use Rattle.net_machine.proofs.Laws.{fronts}
use Rattle.net_topology.specs.Links.{link_at}
use Rattle.net_ways.proofs.Laws.{joins_unseen, nodes_unseen, streams_unseen, unseen_twice}
use Rattle.net_ways.specs.Hops.{GoesAhead, IsUnseen}
use Rattle.net_ways.specs.Standing.{HasWays, HaveWays, IsMessage, IsMessageOn}
use Rattle.net_ways.specs.Unseen.{IsForeign}
use Rattle.net_streams.proofs.Laws.{command_acts, enter_acts, report_acts, seen_acts}
use Rattle.net_streams.specs.Acting.{Acts}
use Rattle.net_streams.specs.Shows.{Shows, load_of, terms_of}
use Rattle.net_flows.specs.Flows.{IsSteady}
use Rattle.net_flows.specs.Forms.{IsPacketOn, Tells, item_on, most_on, timed_on}
use Rattle.net_flows.proofs.Following.{one-flows}
use Rattle.net_flows.proofs.Keeping.{KeepsForm, Steps, TellingBy, foreign-from, foreign-message, foreign-to, kept-on, kept-same, steps-kept, steps-self, steps-unseen}
use Rattle.net_flows.proofs.Telling.{message-tells, telling-over}

pub ways-of : (w : State) (s : ℕ) → HaveWays w → s < length w.streams → HasWays w s
ways-of w s ways there = ways.each s (subst (λ (n : ℕ). s < n) ways.as_many there)

-- ---- an entry enters, and stream s changes

over-unseen : (w : State) (t : ℕ) (o : Option ℕ) (vc : ℕ) (e : Entry) → IsForeign (plan_at w.plan t) e → IsUnseen w (enters_over o vc e.marked e.packet e.tag w) t
over-unseen w t None vc e foreign = record { plan = refl; tree = refl; stream = refl; ahead = refl; back = refl }
over-unseen w t (Some d) vc e foreign = joins_unseen w t (queue_of d vc) e foreign

sends-unseen : (w : State) (s t : ℕ) (next : Stream → Stream) (o : Option ℕ) (vc : ℕ) (e : Entry) → t ≢ s → IsForeign (plan_at w.plan t) e →
    IsUnseen w (on_stream s next (enters_over o vc e.marked e.packet e.tag w)) t
sends-unseen w s t next o vc e other foreign =
    unseen_twice w (enters_over o vc e.marked e.packet e.tag w) (on_stream s next (enters_over o vc e.marked e.packet e.tag w)) t
    (over-unseen w t o vc e foreign) (streams_unseen (enters_over o vc e.marked e.packet e.tag w) s t next other)

sends-kept : (w : State) (s : ℕ) (next : Stream → Stream) (o : Option ℕ) (vc : ℕ) (e : Entry) → KeepsForm w.plan s (stream_at w s) (next (stream_at w s)) →
    (t : ℕ) → KeepsForm w.plan t (stream_at w t) (stream_at (on_stream s next (enters_over o vc e.marked e.packet e.tag w)) t)
sends-kept w s next None vc e here = kept-on w s next here
sends-kept w s next (Some d) vc e here = kept-on w s next here

sends-steps : (w : State) (s : ℕ) (next : Stream → Stream) (o : Option ℕ) (vc : ℕ) (e : Entry) → TellingBy w.plan w →
    ((t : ℕ) → t < length w.streams → t ≢ s → IsForeign (plan_at w.plan t) e) → Tells w.plan e e.packet.body → KeepsForm w.plan s (stream_at w s) (next (stream_at w s)) →
    (s < length w.streams → (st : OneStream Packet) → IsRun (terms_of (plan_at w.plan s)) st → Shows w s (is_closed (front w) s) st →
    Acts w (on_stream s next (enters_over o vc e.marked e.packet e.tag w)) s (is_closed (front w) s) st) →
    Steps w (on_stream s next (enters_over o vc e.marked e.packet e.tag w))
sends-steps w s next o vc e telling foreign tells kept itself =
    steps-kept w (on_stream s next (enters_over o vc e.marked e.packet e.tag w))
    (one-flows (is_closed (front w)) w (on_stream s next (enters_over o vc e.marked e.packet e.tag w)) s
    (λ t there other. sends-unseen w s t next o vc e other (foreign t there other)) itself)
    (telling-over w.plan o vc e w tells telling) (sends-kept w s next o vc e kept)

-- ---- samples

-- what has the form of samples is samples
pub record AreSamples (b : Body) : Type 0 where
  pub time : Option ℕ
  pub payload : List ℕ
  pub is : b ≡ body.Samples time payload

are-samples : (item : ℕ) (b : Body) → HoldsSamples item b → AreSamples b
are-samples item (body.Samples time payload) h = record { time = time; payload = payload; is = refl }
are-samples item (body.Command c) h = absurd h
are-samples item (body.Status status) h = absurd h
are-samples item (body.Control control) h = absurd h
are-samples item (body.Management m) h = absurd h

pub samples-in : (plan : RunPlan) (s : ℕ) (p : Packet) → IsPacketOn plan s p → AreSamples p.body
samples-in plan s p within = are-samples (item_on plan s) p.body within.feed.body

-- a stream with something ready is there
pub ready-there : (w : State) (s : ℕ) (p : Packet) (rest : List Packet) → (stream_at w s).ready ≡ p ∷ rest → s < length w.streams
ready-there w s p rest is = by_order (cases_lt s (length w.streams))
  where
    none : [] ≡ p ∷ rest → ⊥
    none e = cc

    by_order : (s < length w.streams) ⊎ (length w.streams ≤ s) → s < length w.streams
    by_order (inl lt) = lt
    by_order (inr past) = absurd (none (ap (λ (st : Stream). st.ready) (sym (get_or_past w.streams s idle past)) ∙ is))

number-of : (w : State) (s : ℕ) (closed : Bool) (st : OneStream Packet) → IsRun (terms_of (plan_at w.plan s)) st → Shows w s closed st →
    next_number (stream_at w s).sender ≡ number_at (terms_of (plan_at w.plan s)) (length (stream_at w s).sent)
number-of w s closed st run shows =
    let terms = terms_of (plan_at w.plan s) in
    ap (λ (c : Core Packet). next_number c.sender) (sym shows.core) ∙ numbers_go_on terms st run
    ∙ ap (λ (c : Core Packet). number_at terms (length c.sent)) shows.core ∙ ap (number_at terms) (length-map (stream_at w s).sent load_of)

sent-kept : (plan : RunPlan) (s : ℕ) (st : Stream) (p : Packet) (rest : List Packet) → st.ready ≡ p ∷ rest → KeepsForm plan s st (sends_first (plan_at plan s) p rest st)
sent-kept plan s st p rest is = record {
  form = λ h. record { ready = All-rest (IsPacketOn plan s) p rest st.ready is h.ready; given = h.given };
  clear = λ h. never (subst (λ (ready : List Packet). IsTrue (not (has_packet ready))) is h);
}
  where
    never : {A : Type 0} → false ≡ true → A
    never h = cc

entered-form : (plan : RunPlan) (s : ℕ) (st : Stream) (p : Packet) → IsPacketOn plan s p → IsPacketOn plan s (entering (plan_at plan s) st.sender p)
entered-form plan s st p within =
    within_is_of_all (item_on plan s) (most_on plan s) (timed_on plan s) p (entering (plan_at plan s) st.sender p) (sym within.feed.vc) refl refl within

enter-first : (w : State) (s : ℕ) (p : Packet) (rest : List Packet) → IsSteady w → HaveWays w → (stream_at w s).ready ≡ p ∷ rest → IsTrue (enabled w (event.Enter s)) → Steps w (enters s (p ∷ rest) w)
unfolding after
enter-first w s p rest steady ways is may_it =
    let plan = plan_at w.plan s in
    let old = stream_at w s in
    let there = ready-there w s p rest is in
    let way = ways-of w s ways there in
    let flow = steady.flows s there in
    let e : Entry = record { packet = entering plan old.sender p; marked = is_named w.faults (fault.Samples s (length old.sent)); tag = Sample (length old.sent) } in
    let within : IsPacketOn w.plan s p = All-head (IsPacketOn w.plan s) p rest (subst (All (IsPacketOn w.plan s)) is (steady.forms s there).ready) in
    let samples = samples-in w.plan s p within in
    let goes : GoesAhead p.body = subst GoesAhead (sym samples.is) tt in
    let tells : Tells w.plan e p.body =
    subst (Tells w.plan e) (sym samples.is) (record {
      stream = s;
      mine = way.to;
      there = subst (λ (n : ℕ). s < n) steady.as_many there;
      form = entered-form w.plan s old p within;
      place = length old.sent;
      tag = refl;
      number = number-of w s (is_closed (front w) s) flow.state flow.run flow.shows;
    }) in
    sends-steps w s (sends_first plan p rest) (first_link w.tree plan.from) forward_vc e steady.telling
    (λ t here other. foreign-to w.plan s t e goes way.to (ways-of w t ways here).to other) tells (sent-kept w.plan s old p rest is)
    (λ here st run shows. subst (λ (r : List Packet). Acts w (enters s r w) s (is_closed (front w) s) st) is
    (enter_acts w s (is_closed (front w) s) st p rest samples.time samples.payload (record { there = here; queues = steady.queues; shows = shows }) way.forth may_it is samples.is
    (number-of w s (is_closed (front w) s) st run shows)))

enter-any : (w : State) (s : ℕ) (packets : List Packet) → IsSteady w → HaveWays w → (stream_at w s).ready ≡ packets → IsTrue (enabled w (event.Enter s)) → Steps w (enters s packets w)
enter-any w s [] steady ways is may_it = steps-self w steady.telling
enter-any w s (p ∷ rest) steady ways is may_it = enter-first w s p rest steady ways is may_it

pub enter-steps : (w : State) (s : ℕ) → IsSteady w → HaveWays w → IsTrue (enabled w (event.Enter s)) → Steps w (after w (event.Enter s))
unfolding after
enter-steps w s steady ways may_it = enter-any w s (stream_at w s).ready steady ways refl may_it

-- ---- commands and statuses

shown-past : (w : State) (s : ℕ) → length w.streams ≤ s → front_at (front w) s ≡ stream_front idle
shown-past w s past = fronts.stream w s ∙ ap stream_front (get_or_past w.streams s idle past)

order-past : (w : State) (s : ℕ) (op : CmdOp) → length w.streams ≤ s → can_order (front w) s op ≡ false
order-past w s Init past = rw (shown-past w s past) refl
order-past w s Ping past = rw (shown-past w s past) refl
order-past w s Resync past = rw (shown-past w s past) refl
order-past w s (Other code) past = refl

first-true : (a b : Bool) → (a && b) ≡ true → a ≡ true
first-true true b h = refl
first-true false b h = h

order-there : (w : State) (s : ℕ) (op : CmdOp) → IsTrue (enabled w (event.Command s op)) → s < length w.streams
unfolding may
order-there w s op may_it =
    elim (cases_lt s (length w.streams)) [
      | inl lt ↦ lt
      | inr past ↦ absurd (false≢true (sym (order-past w s op past) ∙ first-true (can_order (front w) s op) (has_place_from (front w) forward_vc (plan_at w.plan s).from) may_it))
    ]

report-there : (w : State) (s : ℕ) → IsTrue (enabled w (event.Report s)) → s < length w.streams
unfolding may
report-there w s may_it =
    elim (cases_lt s (length w.streams)) [
      | inl lt ↦ lt
      | inr past ↦ absurd (false≢true (sym (ap (λ (st : StreamFront). st.due) (shown-past w s past)) ∙ first-true (front_at (front w) s).due (has_place_from (front w) back_vc (plan_at w.plan s).to) may_it))
    ]

-- a command that may be ordered is one that a sender gives
given-op : (w : State) (s : ℕ) (op : CmdOp) → IsTrue (can_order (front w) s op) → (op ≡ Init) ⊎ ((op ≡ Ping) ⊎ (op ≡ Resync))
given-op w s Init h = inl refl
given-op w s Ping h = inr (inl refl)
given-op w s Resync h = inr (inr refl)
given-op w s (Other code) h = cc

pub command-steps : (w : State) (s : ℕ) (op : CmdOp) → IsSteady w → HaveWays w → IsTrue (enabled w (event.Command s op)) → Steps w (after w (event.Command s op))
unfolding may after
command-steps w s op steady ways may_it =
    let plan = plan_at w.plan s in
    let old = stream_at w s in
    let way = ways-of w s ways (order-there w s op may_it) in
    let counts = ordered_by plan.flow old.sender op in
    let e : Entry = record { packet = message forward_vc plan.to (body.Command (command_of op (sending_of plan old))); marked = is_named w.faults (fault.Command s old.commands); tag = Order counts } in
    sends-steps w s (sends_order op) (first_link w.tree plan.from) forward_vc e steady.telling
    (λ t here other. foreign-to w.plan s t e tt way.to (ways-of w t ways here).to other)
    (record { counts = counts; tag = refl; op = given-op w s op (first-true (can_order (front w) s op) (has_place_from (front w) forward_vc plan.from) may_it) })
    (kept-same w.plan s old (sends_order op old) refl refl)
    (λ here st run shows. command_acts w s op st (record { there = here; queues = steady.queues; shows = shows }) way.forth may_it)

pub report-steps : (w : State) (s : ℕ) → IsSteady w → HaveWays w → IsTrue (enabled w (event.Report s)) → Steps w (after w (event.Report s))
unfolding after
report-steps w s steady ways may_it =
    let plan = plan_at w.plan s in
    let old = stream_at w s in
    let way = ways-of w s ways (report-there w s may_it) in
    let e : Entry = record { packet = message back_vc plan.from (body.Status (status_of (receiving_of plan old))); marked = is_named w.faults (fault.Status s old.statuses); tag = Report (told_by old.receiver) } in
    sends-steps w s sends_status (first_link w.tree plan.to) back_vc e steady.telling
    (λ t here other. foreign-from w.plan s t e tt way.from (ways-of w t ways here).from other)
    (record { told = told_by old.receiver; tag = refl })
    (kept-same w.plan s old (sends_status old) refl refl)
    (λ here st run shows. report_acts w s (is_closed (front w) s) st (record { there = here; queues = steady.queues; shows = shows }) way.back may_it)

-- ---- what an Rx takes

pub seen-steps : (w : State) (s n : ℕ) → IsSteady w → IsTrue (enabled w (event.Seen s n)) → Steps w (after w (event.Seen s n))
unfolding after
seen-steps w s n steady may_it =
    steps-kept w (on_stream s (taken_to n) w)
    (one-flows (is_closed (front w)) w (on_stream s (taken_to n) w) s (λ t here other. streams_unseen w s t (taken_to n) other)
    (λ here st run shows. seen_acts w s n (is_closed (front w) s) st (record { there = here; queues = steady.queues; shows = shows }) may_it))
    steady.telling (kept-on w s (taken_to n) (kept-same w.plan s (stream_at w s) (taken_to n (stream_at w s)) refl refl))

-- ---- requests and answers

node-enters : (w v : State) (x : ℕ) (next : Node → Node) (o : Option ℕ) (vc : ℕ) (e : Entry) → IsMessage e.packet.body → e.tag ≡ Message → v.plan ≡ w.plan → ((t : ℕ) → IsUnseen w v t) → TellingBy w.plan v →
    Steps w (on_node x next (enters_over o vc e.marked e.packet e.tag v))
node-enters w v x next o vc e kind tag plan same telling =
    let entered = enters_over o vc e.marked e.packet e.tag v in
    steps-unseen w (on_node x next entered)
    (λ t. unseen_twice w v (on_node x next entered) t (same t)
    (unseen_twice v entered (on_node x next entered) t (over-unseen v t o vc e (foreign-message (plan_at v.plan t) e kind)) (nodes_unseen entered x t next)))
    (telling-over w.plan o vc e v (message-tells w.plan e e.packet.body kind tag) telling)

ask-any : (w : State) (x : ℕ) (packets : List Packet) → (node_at w x).requests ≡ packets → IsSteady w → Steps w (asks_first x packets w)
ask-any w x [] is steady = steps-self w steady.telling
ask-any w x (p ∷ rest) is steady =
    let r : IsMessageOn forward_vc p = (subst (AllByRecursion (IsMessageOn forward_vc)) is (steady.messages x).requests).0 in
    node-enters w (record w { requests = w.requests + 1 }) x (λ (n : Node). record n { requests = rest }) (link_at w.tree.links x 0) forward_vc
    (record { packet = p; marked = is_named w.faults (fault.Request w.requests); tag = Message }) r.1 refl refl
    (λ t. record { plan = refl; tree = refl; stream = refl; ahead = refl; back = refl }) steady.telling

reply-any : (w : State) (x : ℕ) (packets : List Packet) → (node_at w x).pending ≡ packets → IsSteady w → Steps w (replies_first x packets w)
reply-any w x [] is steady = steps-self w steady.telling
reply-any w x (p ∷ rest) is steady =
    let r : IsMessageOn back_vc p = (subst (AllByRecursion (IsMessageOn back_vc)) is (steady.messages x).pending).0 in
    node-enters w (record w { answers = w.answers + 1 }) x (λ (n : Node). record n { pending = rest }) (route_from w.tree w.nodes x p.dst) back_vc
    (record { packet = p; marked = is_named w.faults (fault.Answer w.answers); tag = Message }) r.1 refl refl
    (λ t. record { plan = refl; tree = refl; stream = refl; ahead = refl; back = refl }) steady.telling

pub ask-steps : (w : State) (x : ℕ) → IsSteady w → Steps w (after w (event.Ask x))
unfolding after
ask-steps w x steady = ask-any w x (node_at w x).requests refl steady

pub reply-steps : (w : State) (x : ℕ) → IsSteady w → Steps w (after w (event.Reply x))
unfolding after
reply-steps w x steady = reply-any w x (node_at w x).pending refl steady
