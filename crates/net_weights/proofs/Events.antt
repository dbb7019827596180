-- Each event lowers the weight of a state.
use Rattle.std.proofs.Common.{◌≡◌, ℕ, ◌+◌, ◌*◌, ◌≤◌, ◌<◌, Bool, true, false, IsTrue, ◌&&◌, List, [], ◌∷◌, ◌++◌, length, refl, sym, ◌∙◌, ap, subst, arith, nat_le, slice_index_or, sum_by, if◌then◌else◌, length-append}
use Rattle.std.specs.List.{All, flat_map}
use Rattle.std.proofs.lemmas.Bool.{lt-leb, le-leb}
use Rattle.std.proofs.lemmas.List.{get_or_past}
use Rattle.std.proofs.lemmas.List.Concat.{flat_map-append}
use Rattle.std.proofs.lemmas.List.Elements.{All-head}
use Rattle.std.proofs.lemmas.List.Sums.{sum_by-cons}
use Rattle.block_library.specs.Blocks.{HoldsSamples}
use Rattle.chdr_packets.specs.declared.packet.Body.{Body}
use Rattle.chdr_packets.specs.declared.packet.Body.TheVariants as body
use Rattle.chdr_packets.specs.declared.packet.Packet.{Packet}
use Rattle.chdr_words.specs.declared.command.CmdOp.{CmdOp}
use Rattle.chdr_words.specs.declared.command.CmdOp.TheVariants.{Init, Ping, Resync, Other}
use Rattle.net_topology.specs.Links.{link_at}
use Rattle.stream_endpoint.specs.Epochs.{ordered_by, told_by}
use Rattle.stream_endpoint.specs.InEnd.{status_of}
use Rattle.stream_endpoint.specs.OutEnd.{command_of}
use Rattle.stream_endpoint.specs.Receiver.{is_due}
use Rattle.net_faults.specs.declared.fault.Fault.{Fault}
use Rattle.stream_laws.specs.Machine.{Entry as Flight}
use Rattle.net_faults.specs.declared.fault.Fault.TheVariants as fault
use Rattle.net_machine.specs.declared.event.Event.{Event}
use Rattle.net_machine.specs.declared.event.Event.TheVariants as event
use Rattle.net_machine.specs.Conditions.{can_order, enabled, has_place_from, may}
use Rattle.net_machine.specs.Effects.{after, asks_first, enters, orders, replies_first, reports}
use Rattle.net_machine.specs.Faults.{is_named}
use Rattle.net_machine.specs.Front.{StreamFront, front, front_at, stream_front}
use Rattle.net_machine.specs.Moves.{Happens}
use Rattle.net_machine.specs.Nodes.{route_from}
use Rattle.net_machine.specs.Passing.{message}
use Rattle.net_machine.specs.Plans.{first_link, plan_at}
use Rattle.net_machine.specs.Queues.{back_vc, forward_vc}
use Rattle.net_machine.specs.State.{Entry, Node, State, Stream, Sample, Order, Report, Message, blank, idle, node_at, stream_at}
use Rattle.net_machine.specs.Streams.{entering, receiving_of, sending_of, sends_first, sends_order, sends_status}
use Rattle.net_machine.proofs.Laws.{fronts, shape_stays}
use Rattle.net_ways.specs.Ways.{ahead}
use Rattle.net_ways.proofs.Laws.{enters_ahead}
use Rattle.net_streams.proofs.Laws.{command_acts}
use Rattle.net_streams.specs.Shows.{flight_of}
use Rattle.net_flows.specs.Flows.{IsSteady}
use Rattle.net_flows.specs.Forms.{IsPacketOn, item_on}
use Rattle.net_weights.specs.Charge.{faults_left, is_left, marks_left, potentials, room_left, weight}
use Rattle.net_flows.specs.Going.{EachGoesOn}
use Rattle.net_weights.specs.Journals.{IsWeighed}
use Rattle.net_weights.specs.Work.{burden_by, burden_of, top_of, waiting_weight, work}
use Rattle.net_weights.proofs.Calming.{HasKept, IsCalm, calm-grown, kept-counts, kept-same}
use Rattle.net_weights.proofs.Entering.{names-fall, node-answers, node-grown, node-less, node-marks, node-requests, node-streams, sends-grown, sends-here, sends-kept, sends-less, sends-marks, sends-other, sends-work}
use Rattle.net_weights.proofs.Falling.{charge-falls, charge-lowered, charge-stays, charge-used, potentials-fall, potentials-rise, potentials-stay, work-falls}
use Rattle.net_weights.proofs.Leftovers.{HasCounts, HasGrown, faults-stay, room-stays, room-used}
use Rattle.net_weights.proofs.Potentials.{command-potential, potential-low, potential-stays}
use Rattle.net_weights.proofs.Streaming.{sent-weight}
use Rattle.net_weights.proofs.Working.{there-by}

first-true : (a b : Bool) → (a && b) ≡ true → a ≡ true
first-true true b h = refl
first-true false b h = h

never : {A : Type 0} → false ≡ true → A
never h = cc

-- ---- what neither sends nor loses

calm-potentials : (w v : State) → IsSteady w → EachGoesOn w v → length v.streams ≡ length w.streams → ((t : ℕ) → HasKept (stream_at w t) (stream_at v t)) → potentials v ≤ potentials w
calm-potentials w v steady each as_many kept =
    potentials-stay w v as_many (λ s there. potential-stays w v s there steady each
    (let same = (kept s).sent in omega (arith, same)) (let same = (kept s).losses in omega (arith, same)))

-- a calm event that leaves less work
pub calm-falls : (w : State) (e : Event) → IsWeighed w → EachGoesOn w (after w e) → IsCalm w (after w e) → work (after w e) < work w → weight (after w e) < weight w
calm-falls w e fit each calm less =
    let v = after w e in
    let shape = shape_stays w (Happens e) in
    let grown = calm-grown w v calm in
    let faults = faults-stay w v grown in
    work-falls w v shape.tree
    (charge-stays w v (sums (faults_left v) (faults_left w) (marks_left v) (marks_left w) faults calm.marks)
    (room-stays w v shape.plan shape.streams grown) (calm-potentials w v fit.steady each shape.streams calm.streams)) less
  where
    sums : (a b c d : ℕ) → a ≤ b → c ≤ d → a + c ≤ b + d
    sums a b c d p q = omega arith

-- ---- samples

samples-burden : (top item : ℕ) (p : Packet) (b : Body) → HoldsSamples item b → burden_by top p b ≤ top + 3
samples-burden top item p (body.Samples time payload) h = omega arith
samples-burden top item p (body.Command c) h = absurd h
samples-burden top item p (body.Status status) h = absurd h
samples-burden top item p (body.Control control) h = absurd h
samples-burden top item p (body.Management m) h = absurd h

pub stream-idle : (w : State) (s : ℕ) → length w.streams ≤ s → stream_at w s ≡ idle
stream-idle w s past = get_or_past w.streams s idle past

ready-there : (w : State) (s : ℕ) (p : Packet) (rest : List Packet) → (stream_at w s).ready ≡ p ∷ rest → s < length w.streams
ready-there w s p rest is = there-by w.streams s idle (λ past. none (ap (λ (st : Stream). st.ready) (sym (stream-idle w s past)) ∙ is))
  where
    none : ◌≡◌ {A = List Packet} [] (p ∷ rest) → ⊥
    none e = cc

is-left : (k n : ℕ) → k ≡ n → nat_le k n ≡ true
is-left k n same = le-leb k n (omega arith)

is-used : (k n : ℕ) → n < k → nat_le k n ≡ false
is-used k n lt = lt-leb k n lt

pub enter-falls : (w : State) (s : ℕ) (p : Packet) (rest : List Packet) → (stream_at w s).ready ≡ p ∷ rest → after w (event.Enter s) ≡ enters s (p ∷ rest) w →
    IsWeighed w → IsSteady (after w (event.Enter s)) → EachGoesOn w (after w (event.Enter s)) → weight (after w (event.Enter s)) < weight w
enter-falls w s p rest is to fit steady each =
    let plan = plan_at w.plan s in
    let st = stream_at w s in
    let v = after w (event.Enter s) in
    let place = length st.sent in
    let name = fault.Samples s place in
    let q = entering plan st.sender p in
    let marked = is_named w.faults name in
    let o = first_link w.tree plan.from in
    let next = sends_first plan p rest in
    let there = ready-there w s p rest is in
    let shape = shape_stays w (Happens (event.Enter s)) in
    let more : length (next st).sent ≡ place + 1 = length-append st.sent (q ∷ []) in
    let counts : HasCounts st (next st) = record { sent = omega (arith, more); statuses = omega arith; commands = omega arith } in
    let grown : HasGrown w v = subst (HasGrown w) (sym to) (sends-grown forward_vc marked q (Sample place) s next w o counts) in
    let here : stream_at v s ≡ next st = ap (λ (u : State). stream_at u s) to ∙ sends-here forward_vc marked q (Sample place) s next w o there in
    let sent : length (stream_at v s).sent ≡ place + 1 = ap (λ (it : Stream). length it.sent) here ∙ more in
    let marks : marks_left v ≤ marks_left w + (if marked then 1 else 0) =
    subst (λ (u : State). marks_left u ≤ marks_left w + (if marked then 1 else 0)) (sym to) (sends-marks forward_vc marked q (Sample place) s next w o) in
    let names = names-fall w v name grown (is-used (length (stream_at v s).sent) place (omega (arith, sent))) (is-left place place refl) marks in
    let bounded = fit.bounded s there in
    let some = ap (λ (ps : List Packet). length ps) is in
    let room = room-used w v s shape.plan shape.streams grown there sent (omega (arith, bounded, some)) in
    let within : IsPacketOn w.plan s p = All-head (IsPacketOn w.plan s) p rest (subst (All (IsPacketOn w.plan s)) is (fit.steady.forms s there).ready) in
    let light = samples-burden (top_of w.tree) (item_on w.plan s) q p.body within.feed.body in
    let worked : work v ≤ work w + (top_of w.tree + 1 + burden_of (top_of w.tree) q) =
    subst (λ (u : State). work u ≤ work w + (top_of w.tree + 1 + burden_of (top_of w.tree) q)) (sym to) (sends-work forward_vc marked q (Sample place) s next w o (omega arith)) in
    charge-falls w v shape.tree
    (charge-used w v (left (faults_left v + marks_left v) (faults_left w + marks_left w) (room_left v) (room_left w) names room)
    (potentials-rise w v s shape.streams
    (λ t lt ne. let same : stream_at v t ≡ stream_at w t = ap (λ (u : State). stream_at u t) to ∙ sends-other forward_vc marked q (Sample place) s next w o t ne in
    potential-stays w v t lt fit.steady each (at-most (length (stream_at v t).sent) (length (stream_at w t).sent) (ap (λ (it : Stream). length it.sent) same)) (at-most (stream_at v t).losses (stream_at w t).losses (ap (λ (it : Stream). it.losses) same)))
    (λ lt. potential-low v s (steady.flows s (subst (λ (n : ℕ). s < n) (sym shape.streams) lt)))))
    (low (work v) (work w) (top_of w.tree) (burden_of (top_of w.tree) q) worked light)
  where
    left : (a b c d : ℕ) → a ≤ b → c + 1 ≤ d → a + c + 1 ≤ b + d
    left a b c d p q = omega arith

    low : (a b top k : ℕ) → a ≤ b + (top + 1 + k) → k ≤ top + 3 → a ≤ b + (2 * top + 4)
    low a b top k p q = omega arith

    at-most : (a b : ℕ) → a ≡ b → a ≤ b
    at-most a b same = omega arith

-- ---- commands

shown-past : (w : State) (s : ℕ) → length w.streams ≤ s → front_at (front w) s ≡ stream_front idle
shown-past w s past = fronts.stream w s ∙ ap stream_front (stream-idle w s past)

order-past : (w : State) (s : ℕ) (op : CmdOp) → length w.streams ≤ s → can_order (front w) s op ≡ false
order-past w s Init past = rw (shown-past w s past) refl
order-past w s Ping past = rw (shown-past w s past) refl
order-past w s Resync past = rw (shown-past w s past) refl
order-past w s (Other code) past = refl

pub order-there : (w : State) (s : ℕ) (op : CmdOp) → IsTrue (enabled w (event.Command s op)) → s < length w.streams
unfolding may
order-there w s op may_it = there-by w.streams s idle
    (λ past. never (sym (order-past w s op past) ∙ first-true (can_order (front w) s op) (has_place_from (front w) forward_vc (plan_at w.plan s).from) may_it))

pub order-falls : (w : State) (s : ℕ) (op : CmdOp) → after w (event.Command s op) ≡ orders s op w → IsTrue (enabled w (event.Command s op)) →
    IsWeighed w → EachGoesOn w (after w (event.Command s op)) → weight (after w (event.Command s op)) < weight w
order-falls w s op to may_it fit each =
    let plan = plan_at w.plan s in
    let st = stream_at w s in
    let v = after w (event.Command s op) in
    let name = fault.Command s st.commands in
    let p = message forward_vc plan.to (body.Command (command_of op (sending_of plan st))) in
    let marked = is_named w.faults name in
    let tag = Order (ordered_by plan.flow st.sender op) in
    let e : Entry = record { packet = p; marked = marked; tag = tag } in
    let o = first_link w.tree plan.from in
    let next = sends_order op in
    let there = order-there w s op may_it in
    let shape = shape_stays w (Happens (event.Command s op)) in
    let kept : HasKept st (next st) = record { sent = refl; losses = refl; statuses = omega arith; commands = omega arith } in
    let grown : HasGrown w v = subst (HasGrown w) (sym to) (sends-grown forward_vc marked p tag s next w o (kept-counts st (next st) kept)) in
    let keeps : (t : ℕ) → HasKept (stream_at w t) (stream_at v t) =
    subst (λ (u : State). (t : ℕ) → HasKept (stream_at w t) (stream_at u t)) (sym to) (sends-kept forward_vc marked p tag s next w o kept) in
    let here : stream_at v s ≡ next st = ap (λ (u : State). stream_at u s) to ∙ sends-here forward_vc marked p tag s next w o there in
    let commands : (stream_at v s).commands ≡ st.commands + 1 = ap (λ (it : Stream). it.commands) here in
    let marks : marks_left v ≤ marks_left w + (if marked then 1 else 0) =
    subst (λ (u : State). marks_left u ≤ marks_left w + (if marked then 1 else 0)) (sym to) (sends-marks forward_vc marked p tag s next w o) in
    let names = names-fall w v name grown (is-used (stream_at v s).commands st.commands (omega (arith, commands))) (is-left st.commands st.commands refl) marks in
    let flow = fit.steady.flows s there in
    let way = fit.ways s op may_it in
    let acts = command_acts w s op flow.state (record { there = there; queues = fit.steady.queues; shows = flow.shows }) way may_it in
    let joined = enters_ahead w s e fit.steady.queues way tt refl in
    let ways : ahead v s ≡ ahead w s ++ e ∷ [] = ap (λ (u : State). ahead u s) to ∙ joined.ahead in
    let flights : length (flat_map flight_of (ahead v s)) ≡ length (flat_map flight_of (ahead w s) ++ flat_map flight_of (e ∷ [])) =
    ap (λ (es : List Entry). length (flat_map flight_of es)) ways ∙ ap (λ (fs : List (Flight Packet)). length fs) (flat_map-append flight_of (ahead w s) (e ∷ [])) in
    let sum = length-append (flat_map flight_of (ahead w s)) (flat_map flight_of (e ∷ [])) in
    let worked : work v ≤ work w + (top_of w.tree + 1 + burden_of (top_of w.tree) p) =
    subst (λ (u : State). work u ≤ work w + (top_of w.tree + 1 + burden_of (top_of w.tree) p)) (sym to) (sends-work forward_vc marked p tag s next w o (omega arith)) in
    charge-falls w v shape.tree
    (charge-lowered w v names (room-stays w v shape.plan shape.streams grown)
    (potentials-fall w v s shape.streams there
    (λ t lt ne. potential-stays w v t lt fit.steady each (at-most (length (stream_at v t).sent) (length (stream_at w t).sent) (keeps t).sent) (at-most (stream_at v t).losses (stream_at w t).losses (keeps t).losses))
    (command-potential w v s there flow acts (at-most (length (stream_at v s).sent) (length st.sent) (keeps s).sent)
    (longer (length (flat_map flight_of (ahead w s))) (length (flat_map flight_of (ahead v s))) _ flights sum))))
    (low (work v) (work w) (top_of w.tree) worked)
  where
    low : (a b top : ℕ) → a ≤ b + (top + 1 + (top + 3)) → a ≤ b + (2 * top + 4)
    low a b top p = omega arith

    at-most : (a b : ℕ) → a ≡ b → a ≤ b
    at-most a b same = omega arith

    longer : (old new mid : ℕ) → new ≡ mid → mid ≡ old + 1 → old < new
    longer old new mid is sum = omega arith

-- ---- what enters and leaves less work

named-falls : (w : State) (e : Event) (name : Fault) → IsWeighed w → EachGoesOn w (after w e) → HasGrown w (after w e) → is_left (after w e) name ≡ false → is_left w name ≡ true →
    marks_left (after w e) ≤ marks_left w + (if is_named w.faults name then 1 else 0) → ((t : ℕ) → HasKept (stream_at w t) (stream_at (after w e) t)) → work (after w e) < work w →
    weight (after w e) < weight w
named-falls w e name fit each grown used left marks kept less =
    let v = after w e in
    let shape = shape_stays w (Happens e) in
    work-falls w v shape.tree
    (charge-stays w v (names-fall w v name grown used left marks) (room-stays w v shape.plan shape.streams grown) (calm-potentials w v fit.steady each shape.streams kept)) less

report-due : (w : State) (s : ℕ) → IsTrue (enabled w (event.Report s)) → is_due (stream_at w s).receiver ≡ true
unfolding may
report-due w s may_it =
    ap (λ (st : StreamFront). st.due) (sym (fronts.stream w s)) ∙ first-true (front_at (front w) s).due (has_place_from (front w) back_vc (plan_at w.plan s).to) may_it

pub report-falls : (w : State) (s : ℕ) → after w (event.Report s) ≡ reports s w → IsTrue (enabled w (event.Report s)) → IsWeighed w → EachGoesOn w (after w (event.Report s)) →
    weight (after w (event.Report s)) < weight w
report-falls w s to may_it fit each =
    let plan = plan_at w.plan s in
    let st = stream_at w s in
    let v = after w (event.Report s) in
    let name = fault.Status s st.statuses in
    let p = message back_vc plan.from (body.Status (status_of (receiving_of plan st))) in
    let marked = is_named w.faults name in
    let tag = Report (told_by st.receiver) in
    let o = first_link w.tree plan.to in
    let next = sends_status in
    let due = report-due w s may_it in
    let there = there-by w.streams s idle (λ past. never (ap (λ (it : Stream). is_due it.receiver) (sym (stream-idle w s past)) ∙ due)) in
    let kept : HasKept st (next st) = record { sent = refl; losses = refl; statuses = omega arith; commands = omega arith } in
    let grown : HasGrown w v = subst (HasGrown w) (sym to) (sends-grown back_vc marked p tag s next w o (kept-counts st (next st) kept)) in
    let keeps : (t : ℕ) → HasKept (stream_at w t) (stream_at v t) =
    subst (λ (u : State). (t : ℕ) → HasKept (stream_at w t) (stream_at u t)) (sym to) (sends-kept back_vc marked p tag s next w o kept) in
    let here : stream_at v s ≡ next st = ap (λ (u : State). stream_at u s) to ∙ sends-here back_vc marked p tag s next w o there in
    let statuses : (stream_at v s).statuses ≡ st.statuses + 1 = ap (λ (it : Stream). it.statuses) here in
    let marks : marks_left v ≤ marks_left w + (if marked then 1 else 0) =
    subst (λ (u : State). marks_left u ≤ marks_left w + (if marked then 1 else 0)) (sym to) (sends-marks back_vc marked p tag s next w o) in
    let worked : work v + (top_of w.tree + 2) ≤ work w + (top_of w.tree + 1 + burden_of (top_of w.tree) p) =
    subst (λ (u : State). work u + (top_of w.tree + 2) ≤ work w + (top_of w.tree + 1 + burden_of (top_of w.tree) p)) (sym to)
    (sends-less back_vc marked p tag s next w o (top_of w.tree + 2) there (sent-weight (top_of w.tree) st due)) in
    named-falls w (event.Report s) name fit each grown (is-used (stream_at v s).statuses st.statuses (omega (arith, statuses))) (is-left st.statuses st.statuses refl) marks keeps
    (less (work v) (work w) (top_of w.tree) worked)
  where
    less : (a b top : ℕ) → a + (top + 2) ≤ b + (top + 1 + 0) → a < b
    less a b top le = omega arith

-- ---- requests and answers

same-kept : (w v : State) → v.streams ≡ w.streams → (t : ℕ) → HasKept (stream_at w t) (stream_at v t)
same-kept w v same t = subst (λ (ss : List Stream). HasKept (stream_at w t) (slice_index_or ss t idle)) (sym same) (kept-same (stream_at w t))

node-idle : (w : State) (x : ℕ) → length w.nodes ≤ x → node_at w x ≡ blank
node-idle w x past = get_or_past w.nodes x blank past

empty-not : (p : Packet) (ps : List Packet) → ◌≡◌ {A = List Packet} [] (p ∷ ps) → ⊥
empty-not p ps same = cc

work-asked : (w : State) → work (record w { requests = w.requests + 1 }) ≡ work w
unfolding work
work-asked w = refl

work-answered : (w : State) → work (record w { answers = w.answers + 1 }) ≡ work w
unfolding work
work-answered w = refl

pub ask-falls : (w : State) (x : ℕ) (p : Packet) (rest : List Packet) → (node_at w x).requests ≡ p ∷ rest → after w (event.Ask x) ≡ asks_first x (p ∷ rest) w → IsWeighed w → EachGoesOn w (after w (event.Ask x)) →
    weight (after w (event.Ask x)) < weight w
ask-falls w x p rest is to fit each =
    let v = after w (event.Ask x) in
    let u : State = record w { requests = w.requests + 1 } in
    let name = fault.Request w.requests in
    let marked = is_named w.faults name in
    let o = link_at w.tree.links x 0 in
    let next : Node → Node = λ n. record n { requests = rest } in
    let there = there-by w.nodes x blank (λ past. empty-not p rest (ap (λ (n : Node). n.requests) (sym (node-idle w x past)) ∙ is)) in
    let grown : HasGrown w v = subst (HasGrown w) (sym to)
    (let g = node-grown forward_vc marked p Message x next u o in record { streams = g.streams; requests = omega (arith, g.requests); answers = g.answers; faults = g.faults }) in
    let requests : v.requests ≡ w.requests + 1 = ap (λ (z : State). z.requests) to ∙ node-requests forward_vc marked p Message x next u o in
    let streams : v.streams ≡ w.streams = ap (λ (z : State). z.streams) to ∙ node-streams forward_vc marked p Message x next u o in
    let marks : marks_left v ≤ marks_left w + (if marked then 1 else 0) =
    subst (λ (z : State). marks_left z ≤ marks_left w + (if marked then 1 else 0)) (sym to) (node-marks forward_vc marked p Message x next u o) in
    let first = sum_by-cons (waiting_weight (top_of w.tree)) p rest in
    let was = ap (λ (ps : List Packet). sum_by (waiting_weight (top_of w.tree)) ps) is in
    let worked : work v + waiting_weight (top_of w.tree) p ≤ work u + (top_of w.tree + 1 + burden_of (top_of w.tree) p) =
    subst (λ (z : State). work z + waiting_weight (top_of w.tree) p ≤ work u + (top_of w.tree + 1 + burden_of (top_of w.tree) p)) (sym to)
    (node-less forward_vc marked p Message x next u o (waiting_weight (top_of w.tree) p) there
    (sums (sum_by (waiting_weight (top_of w.tree)) (node_at w x).pending) _ _ _ (waiting_weight (top_of w.tree) p) first was)) in
    named-falls w (event.Ask x) name fit each grown (is-used v.requests w.requests (omega (arith, requests))) (is-left w.requests w.requests refl) marks (same-kept w v streams)
    (less (work v) (work u) (work w) (top_of w.tree) (burden_of (top_of w.tree) p) worked (work-asked w))
  where
    sums : (pending rest all old m : ℕ) → all ≡ m + rest → old ≡ all → pending + rest + m ≤ pending + old
    sums pending rest all old m first was = omega arith

    less : (a u b top k : ℕ) → a + (top + 2 + k) ≤ u + (top + 1 + k) → u ≡ b → a < b
    less a u b top k le same = omega arith

pub reply-falls : (w : State) (x : ℕ) (p : Packet) (rest : List Packet) → (node_at w x).pending ≡ p ∷ rest → after w (event.Reply x) ≡ replies_first x (p ∷ rest) w → IsWeighed w → EachGoesOn w (after w (event.Reply x)) →
    weight (after w (event.Reply x)) < weight w
reply-falls w x p rest is to fit each =
    let v = after w (event.Reply x) in
    let u : State = record w { answers = w.answers + 1 } in
    let name = fault.Answer w.answers in
    let marked = is_named w.faults name in
    let o = route_from w.tree w.nodes x p.dst in
    let next : Node → Node = λ n. record n { pending = rest } in
    let there = there-by w.nodes x blank (λ past. empty-not p rest (ap (λ (n : Node). n.pending) (sym (node-idle w x past)) ∙ is)) in
    let grown : HasGrown w v = subst (HasGrown w) (sym to)
    (let g = node-grown back_vc marked p Message x next u o in record { streams = g.streams; requests = g.requests; answers = omega (arith, g.answers); faults = g.faults }) in
    let answers : v.answers ≡ w.answers + 1 = ap (λ (z : State). z.answers) to ∙ node-answers back_vc marked p Message x next u o in
    let streams : v.streams ≡ w.streams = ap (λ (z : State). z.streams) to ∙ node-streams back_vc marked p Message x next u o in
    let marks : marks_left v ≤ marks_left w + (if marked then 1 else 0) =
    subst (λ (z : State). marks_left z ≤ marks_left w + (if marked then 1 else 0)) (sym to) (node-marks back_vc marked p Message x next u o) in
    let first = sum_by-cons (waiting_weight (top_of w.tree)) p rest in
    let was = ap (λ (ps : List Packet). sum_by (waiting_weight (top_of w.tree)) ps) is in
    let worked : work v + waiting_weight (top_of w.tree) p ≤ work u + (top_of w.tree + 1 + burden_of (top_of w.tree) p) =
    subst (λ (z : State). work z + waiting_weight (top_of w.tree) p ≤ work u + (top_of w.tree + 1 + burden_of (top_of w.tree) p)) (sym to)
    (node-less back_vc marked p Message x next u o (waiting_weight (top_of w.tree) p) there
    (sums (sum_by (waiting_weight (top_of w.tree)) (node_at w x).requests) _ _ _ (waiting_weight (top_of w.tree) p) first was)) in
    named-falls w (event.Reply x) name fit each grown (is-used v.answers w.answers (omega (arith, answers))) (is-left w.answers w.answers refl) marks (same-kept w v streams)
    (less (work v) (work u) (work w) (top_of w.tree) (burden_of (top_of w.tree) p) worked (work-answered w))
  where
    sums : (requests rest all old m : ℕ) → all ≡ m + rest → old ≡ all → rest + requests + m ≤ old + requests
    sums requests rest all old m first was = omega arith

    less : (a u b top k : ℕ) → a + (top + 2 + k) ≤ u + (top + 1 + k) → u ≡ b → a < b
    less a u b top k le same = omega arith
