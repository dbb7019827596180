-- Each event leaves entries where they may stand.
use Rattle.std.proofs.Common.{◌≡◌, ℕ, ◌+◌, ◌≤◌, ◌<◌, ◌⊎◌, inl, inr, Bool, true, false, List, [], ◌∷◌, ◌++◌, length, refl, sym, ◌∙◌, ap, subst, arith, if◌then◌else◌}
use Rattle.std.specs.Prelude.{IsTrue, Option, Some, None, nat_lt, ◌==◌, ◌&&◌}
use Rattle.std.specs.List.{AllByRecursion}
use Rattle.std.specs.Option.{option_map_or}
use Rattle.std.proofs.lemmas.Bool.{cases_lt, false≢true}
use Rattle.std.proofs.lemmas.List.{get_or_past}
use Rattle.std.proofs.lemmas.List.Quantifiers.{position-Some}
use Rattle.chdr_packets.specs.declared.packet.Body.{Body}
use Rattle.chdr_packets.specs.declared.packet.Body.TheVariants as body
use Rattle.chdr_packets.specs.declared.packet.Packet.{Packet}
use Rattle.chdr_words.specs.declared.command.CmdOp.{CmdOp}
use Rattle.chdr_words.specs.declared.command.CmdOp.TheVariants.{Init, Ping, Resync, Other}
use Rattle.chdr_words.specs.declared.epid.Epid.{Epid}
use Rattle.chdr_words.specs.declared.management.Management.{Management}
use Rattle.net_nodes.specs.declared.site.Done.{Done}
use Rattle.net_nodes.specs.declared.site.Done.TheVariants.{Forward, Return, NoSuchPort, Dead}
use Rattle.net_topology.specs.Leads.{sent_on}
use Rattle.net_topology.specs.Links.{end_of, link_at}
use Rattle.stream_endpoint.specs.Epochs.{ordered_by, told_by}
use Rattle.stream_endpoint.specs.InEnd.{status_of}
use Rattle.stream_endpoint.specs.OutEnd.{command_of}
use Rattle.net_faults.specs.declared.fault.Fault.TheVariants as fault
use Rattle.net_machine.specs.declared.event.Event.TheVariants.{Enter, Hop, Seen, Feed, Report, Command, Lose, Reply, Ask}
use Rattle.net_machine.specs.declared.plan.RunPlan.{RunPlan}
use Rattle.net_machine.specs.Conditions.{can_order, enabled, has_place_from, may}
use Rattle.net_machine.specs.Effects.{after, asks_first, enters, hops, leaves, loses_front, orders, passes, replies_first, reports, stream_of}
use Rattle.net_machine.specs.Faults.{is_named}
use Rattle.net_machine.specs.Front.{StreamFront, front, front_at, stream_front}
use Rattle.net_machine.specs.Nodes.{exits_of, is_switch, route_from}
use Rattle.net_machine.specs.Passing.{Outcome, Passes, Returns, Arrives, Ends, by_table, goes_on, leaves_by, message, passing, passing_by, walked_by, walking}
use Rattle.net_machine.specs.Plans.{block_at, first_link, is_from, is_to, no_stream, plan_at, stream_from, stream_to}
use Rattle.net_machine.specs.Queues.{back_vc, channel_of, forward_vc, link_of_queue, queue_of}
use Rattle.net_machine.specs.State.{Entry, Message, Order, Report as Reported, Sample, State, Stream, idle, node_at, queue_at, stream_at}
use Rattle.net_machine.specs.Streams.{entering, loses, receiving_of, sending_of}
use Rattle.net_machine.proofs.Laws.{fronts, queues}
use Rattle.net_ways.specs.Standing.{AreReady, ArePlaced, HaveWays, IsMessageOn, IsOn, IsPlaced, PlacesStay, Stands, StandsAhead, StandsBack}
use Rattle.net_ways.specs.Ways.{HasQueues, IsLedTo, queues_over, way_between}
use Rattle.net_ways.proofs.Coming.{at-end}
use Rattle.net_ways.proofs.Leading.{way-next}
use Rattle.net_ways.proofs.Moving.{append-one, sent-switch}
use Rattle.net_ways.proofs.Placing.{ahead-stands, first-ahead, first-back, message-stands, placed-any, placed-arrives, placed-feeds, placed-front, placed-joins, placed-leaves, placed-over, placed-pends}

-- ---- the next queue of a way

some-same : {x y : ℕ} → ◌≡◌ {A = Option ℕ} (Some x) (Some y) → x ≡ y
some-same e = cc

-- where the table sends on what stands on a way, it goes to the next queue of the way
on-next : (w : State) (a b : Epid) (vc q d : ℕ) → vc < 2 → HasQueues w → IsLedTo w a b →
    IsOn q (queues_over vc (way_between w.tree a b)) → sent_on w.tree (exits_of w.nodes) b (link_of_queue q) ≡ Some d →
    IsOn (queue_of d (channel_of q)) (queues_over vc (way_between w.tree a b))
on-next w a b vc q d small has leads on sent = by_behind on.behind on.way
  where
    by_behind : (behind : List ℕ) → queues_over vc (way_between w.tree a b) ≡ on.before ++ q ∷ behind →
        IsOn (queue_of d (channel_of q)) (queues_over vc (way_between w.tree a b))
    by_behind [] way =
        absurd (false≢true (sym (at-end w a b vc q on.before small has leads way).switch
        ∙ sent-switch w.tree (exits_of w.nodes) b (link_of_queue q) d sent))
    by_behind (r ∷ behind) way =
        let step = way-next w a b vc on.before q r behind has leads way in
        let link : link_of_queue q ≡ step.over = ap link_of_queue step.is_over ∙ queues.link step.over vc small in
        let channel : channel_of q ≡ vc = ap channel_of step.is_over ∙ queues.channel step.over vc small in
        let over : sent_on w.tree (exits_of w.nodes) b (link_of_queue q) ≡ Some step.next =
        ap (sent_on w.tree (exits_of w.nodes) b) link ∙ step.sent in
        let same : d ≡ step.next = some-same (sym sent ∙ over) in
        let next : r ≡ queue_of d (channel_of q) =
        step.is_next ∙ ap (λ n. queue_of n vc) (sym same) ∙ ap (queue_of d) (sym channel) in
        record { before = on.before ++ q ∷ []; behind = behind; way = way ∙ append-one on.before q r behind ∙ ap (λ n. (on.before ++ q ∷ []) ++ n ∷ behind) next }

found-to : (plan : RunPlan) (epid : Epid) (s : ℕ) → stream_to plan epid ≡ Some s → s < length plan.streams
found-to plan epid s found = (position-Some (is_to epid) plan.streams s no_stream found).0

found-from : (plan : RunPlan) (epid : Epid) (s : ℕ) → stream_from plan epid ≡ Some s → s < length plan.streams
found-from plan epid s found = (position-Some (is_from epid) plan.streams s no_stream found).0

next-ahead : (w : State) (q d : ℕ) (dst : Epid) → HasQueues w → HaveWays w → sent_on w.tree (exits_of w.nodes) dst (link_of_queue q) ≡ Some d →
    StandsAhead w.tree w.plan q dst → StandsAhead w.tree w.plan (queue_of d (channel_of q)) dst
next-ahead w q d dst has ways sent stands =
    let s = stands.stream in
    let way = ways.each s (found-to w.plan dst s stands.mine) in
    record {
      stream = s;
      to = stands.to;
      mine = stands.mine;
      on = on-next w (plan_at w.plan s).from (plan_at w.plan s).to forward_vc q d (omega arith) has way.forth stands.on
          (ap (λ (b : Epid). sent_on w.tree (exits_of w.nodes) b (link_of_queue q)) stands.to ∙ sent);
    }

next-back : (w : State) (q d : ℕ) (dst : Epid) → HasQueues w → HaveWays w → sent_on w.tree (exits_of w.nodes) dst (link_of_queue q) ≡ Some d →
    StandsBack w.tree w.plan q dst → StandsBack w.tree w.plan (queue_of d (channel_of q)) dst
next-back w q d dst has ways sent stands =
    let s = stands.stream in
    let way = ways.each s (found-from w.plan dst s stands.mine) in
    record {
      stream = s;
      from = stands.from;
      mine = stands.mine;
      on = on-next w (plan_at w.plan s).to (plan_at w.plan s).from back_vc q d (omega arith) has way.back stands.on
          (ap (λ (b : Epid). sent_on w.tree (exits_of w.nodes) b (link_of_queue q)) stands.from ∙ sent);
    }

next-stands : (w : State) (q d : ℕ) (dst : Epid) (b : Body) → HasQueues w → HaveWays w → sent_on w.tree (exits_of w.nodes) dst (link_of_queue q) ≡ Some d →
    Stands w.tree w.plan q dst b → Stands w.tree w.plan (queue_of d (channel_of q)) dst b
next-stands w q d dst (body.Samples time payload) has ways sent stands = next-ahead w q d dst has ways sent stands
next-stands w q d dst (body.Command c) has ways sent stands = next-ahead w q d dst has ways sent stands
next-stands w q d dst (body.Status status) has ways sent stands = next-back w q d dst has ways sent stands
next-stands w q d dst (body.Control control) has ways sent stands = tt
next-stands w q d dst (body.Management m) has ways sent stands = tt

-- ---- a Hop

-- where an entry of queue q goes on, it may stand there
abbrev PlacedOutcome : State → ℕ → Entry → Outcome → Type 0
PlacedOutcome w q e (Passes d p) = IsPlaced w.tree w.plan (queue_of d (channel_of q)) (record e { packet = p })
PlacedOutcome w q e (Returns p) = Unit {0}
PlacedOutcome w q e Arrives = Unit {0}
PlacedOutcome w q e Ends = Unit {0}

next-channel : (q d : ℕ) → channel_of q ≡ channel_of (queue_of d (channel_of q))
next-channel q d = sym (queues.channel d (channel_of q) (omega arith))

goes-placed : (w : State) (q : ℕ) (e : Entry) → HasQueues w → HaveWays w → IsPlaced w.tree w.plan q e →
    PlacedOutcome w q e (goes_on w.tree w.nodes (link_of_queue q) e.packet).outcome
goes-placed w q e has ways here = by_sort (is_switch w.tree (end_of w.tree.links (link_of_queue q)))
  where
    by_way : (o : Option ℕ) → sent_on w.tree (exits_of w.nodes) e.packet.dst (link_of_queue q) ≡ o →
        PlacedOutcome w q e (option_map_or (λ (d : ℕ). Passes d e.packet) o Ends)
    by_way None sent = tt
    by_way (Some d) sent = record {
      channel = here.channel ∙ next-channel q d;
      stands = next-stands w q d e.packet.dst e.packet.body has ways sent here.stands;
    }

    by_sort : (b : Bool) → PlacedOutcome w q e (if b then by_table w.tree w.nodes (link_of_queue q) e.packet else Arrives)
    by_sort true = by_way (sent_on w.tree (exits_of w.nodes) e.packet.dst (link_of_queue q)) refl
    by_sort false = tt

leaves-placed : (w : State) (q x : ℕ) (e : Entry) (m : Management) (exit : Done) → e.packet.vc ≡ channel_of q →
    PlacedOutcome w q e (leaves_by w.tree x e.packet m exit)
leaves-placed w q x e m (Forward port) channel = by_link (link_at w.tree.links x port)
  where
    by_link : (o : Option ℕ) → PlacedOutcome w q e (option_map_or (λ (d : ℕ). Passes d (walking e.packet m)) o Ends)
    by_link None = tt
    by_link (Some d) = record { channel = channel ∙ next-channel q d; stands = tt }
leaves-placed w q x e m Return channel = tt
leaves-placed w q x e m (NoSuchPort port) channel = tt
leaves-placed w q x e m Dead channel = tt

passing-placed : (w : State) (q : ℕ) (e : Entry) (b : Body) → HasQueues w → HaveWays w → IsPlaced w.tree w.plan q e →
    PlacedOutcome w q e (passing_by w.tree w.nodes (link_of_queue q) e.packet b).outcome
passing-placed w q e (body.Samples time payload) has ways here = goes-placed w q e has ways here
passing-placed w q e (body.Status status) has ways here = goes-placed w q e has ways here
passing-placed w q e (body.Command c) has ways here = goes-placed w q e has ways here
passing-placed w q e (body.Control control) has ways here = goes-placed w q e has ways here
passing-placed w q e (body.Management m) has ways here = by_epid (e.packet.dst.0 == 0) (nat_lt (length m.hops) 2)
  where
    by_epid : (b c : Bool) → PlacedOutcome w q e (if b
        then (if c then record { outcome = Ends; nodes = w.nodes } else walked_by w.tree w.nodes (link_of_queue q) e.packet m)
        else goes_on w.tree w.nodes (link_of_queue q) e.packet).outcome
    by_epid true true = tt
    by_epid true false = leaves-placed w q (end_of w.tree.links (link_of_queue q)) e _ _ here.channel
    by_epid false c = goes-placed w q e has ways here

passes-placed : (x q : ℕ) (e : Entry) (o : Outcome) (w v : State) → v.tree ≡ w.tree → v.plan ≡ w.plan → PlacedOutcome w q e o → ArePlaced v →
    ArePlaced (passes x (channel_of q) e o v)
passes-placed x q e (Passes d p) w v tree plan here each =
    placed-joins (queue_of d (channel_of q)) (record e { packet = p }) v (rw (tree, plan) here) each
passes-placed x q e (Returns p) w v tree plan here each = placed-pends x p v each
passes-placed x q e Arrives w v tree plan here each = placed-arrives x e e.packet.body v each
passes-placed x q e Ends w v tree plan here each = each

hop-placed : (w : State) (q : ℕ) (entries : List Entry) → queue_at w.queues q ≡ entries → HasQueues w → HaveWays w → ArePlaced w → ArePlaced (hops q entries w)
hop-placed w q [] is has ways each = each
hop-placed w q (e ∷ rest) is has ways each =
    let passed = passing w.tree w.nodes (link_of_queue q) e.packet in
    passes-placed (end_of w.tree.links (link_of_queue q)) q e passed.outcome w (record (leaves q rest w) { nodes = passed.nodes }) refl refl
    (passing-placed w q e e.packet.body has ways (placed-front w q e rest is each).0) (placed-leaves q e rest w is each)

-- ---- what enters

-- a stream with something ready is there
ready-there : (w : State) (s : ℕ) (p : Packet) (rest : List Packet) → (stream_at w s).ready ≡ p ∷ rest → s < length w.streams
ready-there w s p rest is = by_order (cases_lt s (length w.streams))
  where
    none : (p : Packet) (rest : List Packet) → [] ≡ p ∷ rest → ⊥
    none p rest e = cc

    by_order : (s < length w.streams) ⊎ (length w.streams ≤ s) → s < length w.streams
    by_order (inl lt) = lt
    by_order (inr past) = absurd (none p rest (ap (λ (st : Stream). st.ready) (sym (get_or_past w.streams s idle past)) ∙ is))

enter-placed : (w : State) (s : ℕ) (packets : List Packet) → (stream_at w s).ready ≡ packets → HasQueues w → HaveWays w → AreReady w → ArePlaced w → ArePlaced (enters s packets w)
enter-placed w s [] is has ways ready each = each
enter-placed w s (p ∷ rest) is has ways ready each =
    let plan = plan_at w.plan s in
    let there : s < length w.plan.streams = subst (λ n. s < n) ways.as_many (ready-there w s p rest is) in
    placed-over w (first_link w.tree plan.from) forward_vc (is_named w.faults (fault.Samples s (length (stream_at w s).sent)))
    (entering plan (stream_at w s).sender p) (Sample (length (stream_at w s).sent))
    (λ d first. record {
      channel = sym (queues.channel d forward_vc (omega arith));
      stands = ahead-stands w.tree w.plan (queue_of d forward_vc) plan.to p.body (ready.samples s p rest is)
          (first-ahead w s d has (ways.each s there) first);
    }) each

-- what a stream that isn't there shows
shown-past : (w : State) (s : ℕ) → length w.streams ≤ s → front_at (front w) s ≡ stream_front idle
shown-past w s past = fronts.stream w s ∙ ap stream_front (get_or_past w.streams s idle past)

order-past : (w : State) (s : ℕ) (op : CmdOp) → length w.streams ≤ s → can_order (front w) s op ≡ false
order-past w s Init past = rw (shown-past w s past) refl
order-past w s Ping past = rw (shown-past w s past) refl
order-past w s Resync past = rw (shown-past w s past) refl
order-past w s (Other code) past = refl

first-true : (a b : Bool) → (a && b) ≡ true → a ≡ true
first-true true b h = refl
first-true false b h = h

order-there : (w : State) (s : ℕ) (op : CmdOp) → IsTrue (enabled w (Command s op)) → s < length w.streams
unfolding may
order-there w s op may_it =
    elim (cases_lt s (length w.streams)) [
      | inl lt ↦ lt
      | inr past ↦ absurd (false≢true (sym (order-past w s op past) ∙ first-true (can_order (front w) s op) (has_place_from (front w) forward_vc (plan_at w.plan s).from) may_it))
    ]

report-there : (w : State) (s : ℕ) → IsTrue (enabled w (Report s)) → s < length w.streams
unfolding may
report-there w s may_it =
    elim (cases_lt s (length w.streams)) [
      | inl lt ↦ lt
      | inr past ↦ absurd (false≢true (sym (ap (λ (st : StreamFront). st.due) (shown-past w s past)) ∙ first-true (front_at (front w) s).due (has_place_from (front w) back_vc (plan_at w.plan s).to) may_it))
    ]

order-placed : (w : State) (s : ℕ) (op : CmdOp) → s < length w.streams → HasQueues w → HaveWays w → ArePlaced w → ArePlaced (orders s op w)
order-placed w s op lt has ways each =
    let plan = plan_at w.plan s in
    let there : s < length w.plan.streams = subst (λ n. s < n) ways.as_many lt in
    placed-over w (first_link w.tree plan.from) forward_vc (is_named w.faults (fault.Command s (stream_at w s).commands))
    (message forward_vc plan.to (body.Command (command_of op (sending_of plan (stream_at w s))))) (Order (ordered_by plan.flow (stream_at w s).sender op))
    (λ d first. record {
      channel = sym (queues.channel d forward_vc (omega arith));
      stands = first-ahead w s d has (ways.each s there) first;
    }) each

report-placed : (w : State) (s : ℕ) → s < length w.streams → HasQueues w → HaveWays w → ArePlaced w → ArePlaced (reports s w)
report-placed w s lt has ways each =
    let plan = plan_at w.plan s in
    let there : s < length w.plan.streams = subst (λ n. s < n) ways.as_many lt in
    placed-over w (first_link w.tree plan.to) back_vc (is_named w.faults (fault.Status s (stream_at w s).statuses))
    (message back_vc plan.from (body.Status (status_of (receiving_of plan (stream_at w s))))) (Reported (told_by (stream_at w s).receiver))
    (λ d first. record {
      channel = sym (queues.channel d back_vc (omega arith));
      stands = first-back w s d has (ways.each s there) first;
    }) each

ask-placed : (w : State) (x : ℕ) (packets : List Packet) → (node_at w x).requests ≡ packets → AreReady w → ArePlaced w → ArePlaced (asks_first x packets w)
ask-placed w x [] is ready each = each
ask-placed w x (p ∷ rest) is ready each =
    let r : IsMessageOn forward_vc p = (subst (AllByRecursion (IsMessageOn forward_vc)) is (ready.messages x).requests).0 in
    placed-over (record w { requests = w.requests + 1 }) (link_at w.tree.links x 0) forward_vc (is_named w.faults (fault.Request w.requests)) p Message
    (λ d first. record {
      channel = r.0 ∙ sym (queues.channel d forward_vc (omega arith));
      stands = message-stands w.tree w.plan (queue_of d forward_vc) p.dst p.body r.1;
    }) each

reply-placed : (w : State) (x : ℕ) (packets : List Packet) → (node_at w x).pending ≡ packets → AreReady w → ArePlaced w → ArePlaced (replies_first x packets w)
reply-placed w x [] is ready each = each
reply-placed w x (p ∷ rest) is ready each =
    let r : IsMessageOn back_vc p = (subst (AllByRecursion (IsMessageOn back_vc)) is (ready.messages x).pending).0 in
    placed-over (record w { answers = w.answers + 1 }) (route_from w.tree w.nodes x p.dst) back_vc (is_named w.faults (fault.Answer w.answers)) p Message
    (λ d first. record {
      channel = r.0 ∙ sym (queues.channel d back_vc (omega arith));
      stands = message-stands w.tree w.plan (queue_of d back_vc) p.dst p.body r.1;
    }) each

lose-placed : (w : State) (q : ℕ) (entries : List Entry) → queue_at w.queues q ≡ entries → ArePlaced w → ArePlaced (loses_front q entries w)
lose-placed w q [] is each = each
lose-placed w q (e ∷ rest) is each =
    placed-any (stream_of w e.packet e.packet.body) (loses e) (leaves q rest w) (placed-leaves q e rest w is each)

pub places-stay : PlacesStay
unfolding after
places-stay w (Enter s) has ways ready may_it each = enter-placed w s (stream_at w s).ready refl has ways ready each
places-stay w (Command s op) has ways ready may_it each = order-placed w s op (order-there w s op may_it) has ways each
places-stay w (Report s) has ways ready may_it each = report-placed w s (report-there w s may_it) has ways each
places-stay w (Seen s n) has ways ready may_it each = each
places-stay w (Feed b i) has ways ready may_it each = placed-feeds (block_at w.plan b) i w each
places-stay w (Ask x) has ways ready may_it each = ask-placed w x (node_at w x).requests refl ready each
places-stay w (Reply x) has ways ready may_it each = reply-placed w x (node_at w x).pending refl ready each
places-stay w (Lose q) has ways ready may_it each = lose-placed w q (queue_at w.queues q) refl each
places-stay w (Hop q) has ways ready may_it each = hop-placed w q (queue_at w.queues q) refl has ways each
