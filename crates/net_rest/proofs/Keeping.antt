-- Without messages no event brings any, and none changes a node.
use Rattle.std.proofs.Common.{◌≡◌, ℕ, ◌+◌, Bool, true, false, IsTrue, List, [], ◌∷◌, ◌++◌, refl, sym, ◌∙◌, ap, subst, if◌then◌else◌}
use Rattle.std.specs.Prelude.{Option, Some, None, slice_get}
use Rattle.std.specs.List.{AllByRecursion}
use Rattle.std.specs.Option.{option_map_or}
use Rattle.std.proofs.lemmas.Bool.{and_parts, both_ways}
use Rattle.rf_base.proofs.Places.{one-set}
use Rattle.block_library.specs.Memory.{gives}
use Rattle.chdr_packets.specs.declared.packet.Body.{Body}
use Rattle.chdr_packets.specs.declared.packet.Body.TheVariants as body
use Rattle.chdr_packets.specs.declared.packet.Packet.{Packet}
use Rattle.net_topology.specs.Leads.{sent_on}
use Rattle.net_topology.specs.Links.{end_of, link_at}
use Rattle.net_topology.specs.declared.plan.Plan.{Plan}
use Rattle.net_machine.specs.declared.event.Event.{Event}
use Rattle.net_machine.specs.declared.event.Event.TheVariants.{Enter, Hop, Seen, Feed, Report, Command, Lose, Reply, Ask}
use Rattle.net_machine.specs.declared.plan.BlockPlan.{BlockPlan}
use Rattle.net_machine.specs.Blocks.{has_packet, kept_at}
use Rattle.net_machine.specs.Conditions.{can_reply, enabled, has_place_over, may}
use Rattle.net_machine.specs.Effects.{after, arrives, enters, enters_over, feeds, feeds_from, gives_out, hears_status, hops, joins, leaves, loses_front, on_any_stream, on_stream, passes, stream_of}
use Rattle.net_machine.specs.Front.{front}
use Rattle.net_machine.specs.Moves.{Happens}
use Rattle.net_machine.specs.Nodes.{exits_of, is_switch, own_epid, route_from}
use Rattle.net_machine.specs.Passing.{Arrives, Ends, Passes, Passing, by_table, goes_on, passing_by}
use Rattle.net_machine.specs.Plans.{block_at, first_link, plan_at, stream_from, stream_into, stream_out_of, stream_to}
use Rattle.net_machine.specs.Queues.{back_vc, channel_of, forward_vc, link_of_queue, queue_of}
use Rattle.net_machine.specs.State.{Entry, Node, State, Stream, Tag, node_at, node_in, queue_at, stream_at}
use Rattle.net_machine.specs.Streams.{counts_in, gets, gets_order, gets_status, loses, readies, sends_first, sends_order, sends_status, taken_to, told_in}
use Rattle.net_machine.proofs.Laws.{shape_stays}
use Rattle.net_ways.specs.Hops.{GoesAhead}
use Rattle.net_ways.specs.Standing.{AreReady}
use Rattle.net_flows.proofs.Laws.{steady_is_ready}
use Rattle.net_rest.specs.Laws.{NoMessagesCome}
use Rattle.net_rest.specs.Messages.{NoneLeaves, AreOfStreams, HasNoMessages, IsOfStream, NoneAsks, NoneReplies}

-- ---- where no message can enter

no-ask : (w : State) (x : ℕ) → NoneAsks w → IsTrue (enabled w (Ask x)) → ⊥
unfolding may
no-ask w x none may_it = by_link (link_at w.tree.links x 0) refl
  where
    has : Bool
    has = has_packet (node_at w x).requests

    room : Bool
    room = has_place_over (front w) forward_vc (link_at w.tree.links x 0)

    by_link : (o : Option ℕ) → link_at w.tree.links x 0 ≡ o → ⊥
    by_link None is = both_ways room (ap (has_place_over (front w) forward_vc) is) (and_parts has room may_it).1
    by_link (Some d) is = both_ways has (ap has_packet (none x d is)) (and_parts has room may_it).0

no-reply : (w : State) (x : ℕ) → NoneReplies w → IsTrue (enabled w (Reply x)) → ⊥
unfolding may
no-reply w x none may_it = by_pending (node_at w x).pending (none x) may_it
  where
    by_pending : (ps : List Packet) → NoneLeaves w x ps → IsTrue (can_reply (front w) x ps) → ⊥
    by_pending [] held replies = both_ways false refl replies
    by_pending (p ∷ ps) held replies =
        both_ways (has_place_over (front w) back_vc (route_from w.tree w.nodes x p.dst)) (ap (has_place_over (front w) back_vc) held) replies

-- ---- queues and nodes

-- no entry of v is a message, and its nodes are as in w
record Stays (w v : State) : Type 0 where
  queued : AreOfStreams v
  nodes : v.nodes ≡ w.nodes

abbrev OfStream : Entry → Type 0
OfStream e = IsOfStream e.packet.body

more : (es : List Entry) (e : Entry) → AllByRecursion OfStream es → OfStream e → AllByRecursion OfStream (es ++ e ∷ [])
more [] e each here = (here, tt)
more (f ∷ es) e each here = (each.0, more es e each.1 here)

joins-stay : (w v : State) (q : ℕ) (e : Entry) → OfStream e → Stays w v → Stays w (joins q e v)
joins-stay w v q e here stays = record {
  queued = one-set {B = ℕ} (λ r es none. AllByRecursion OfStream es) v.queues [] [] 0 (queue_at v.queues q ++ e ∷ []) q stays.queued
      (more (queue_at v.queues q) e (stays.queued q) here);
  nodes = stays.nodes;
}

leaves-stay : (w : State) (q : ℕ) (e : Entry) (rest : List Entry) → queue_at w.queues q ≡ e ∷ rest → AreOfStreams w → Stays w (leaves q rest w)
leaves-stay w q e rest is each = record {
  queued = one-set {B = ℕ} (λ r es none. AllByRecursion OfStream es) w.queues [] [] 0 rest q each (subst (AllByRecursion OfStream) is (each q)).1;
  nodes = refl;
}

over-stay : (w v : State) (o : Option ℕ) (vc : ℕ) (marked : Bool) (p : Packet) (tag : Tag) → IsOfStream p.body → Stays w v →
    Stays w (enters_over o vc marked p tag v)
over-stay w v None vc marked p tag here stays = stays
over-stay w v (Some d) vc marked p tag here stays = joins-stay w v (queue_of d vc) (record { packet = p; marked = marked; tag = tag }) here stays

on-stay : (w v : State) (s : ℕ) (next : Stream → Stream) → Stays w v → Stays w (on_stream s next v)
on-stay w v s next stays = record {
  queued = stays.queued;
  nodes = stays.nodes;
}

any-stay : (w v : State) (o : Option ℕ) (next : Stream → Stream) → Stays w v → Stays w (on_any_stream o next v)
any-stay w v None next stays = stays
any-stay w v (Some s) next stays = on-stay w v s next stays

-- ---- a Hop

heard-stay : (w v : State) (o : Option ℕ) (tag : Tag) → Stays w v → Stays w (option_map_or (λ (s : ℕ). hears_status tag s v) o v)
heard-stay w v None tag stays = stays
heard-stay w v (Some s) tag stays = on-stay w v s (gets_status (plan_at v.plan s) (told_in tag)) stays

arrives-stay : (w v : State) (x : ℕ) (e : Entry) (b : Body) → IsOfStream b → Stays w v → Stays w (arrives x e b v)
arrives-stay w v x e (body.Samples time payload) here stays = any-stay w v (stream_to v.plan (own_epid v.tree x)) (gets e.packet) stays
arrives-stay w v x e (body.Command c) here stays = any-stay w v (stream_to v.plan (own_epid v.tree x)) (gets_order c.op (counts_in e.tag)) stays
arrives-stay w v x e (body.Status status) here stays = heard-stay w v (stream_from v.plan (own_epid v.tree x)) e.tag stays
arrives-stay w v x e (body.Control control) here stays = absurd here
arrives-stay w v x e (body.Management m) here stays = absurd here

-- a packet of a stream goes by tables
goes-by_table : (tree : Plan) (nodes : List Node) (d : ℕ) (p : Packet) (b : Body) → IsOfStream b → passing_by tree nodes d p b ≡ goes_on tree nodes d p
goes-by_table tree nodes d p (body.Samples time payload) here = refl
goes-by_table tree nodes d p (body.Status status) here = refl
goes-by_table tree nodes d p (body.Command c) here = refl
goes-by_table tree nodes d p (body.Control control) here = absurd here
goes-by_table tree nodes d p (body.Management m) here = absurd here

-- where the front entry of queue q passed a node so, the state then
abbrev passed_on : State → ℕ → Entry → List Entry → Passing → State
passed_on w q e rest passed = passes (end_of w.tree.links (link_of_queue q)) (channel_of q) e passed.outcome (record (leaves q rest w) { nodes = passed.nodes })

goes-stay : (w : State) (q : ℕ) (e : Entry) (rest : List Entry) → OfStream e → Stays w (leaves q rest w) →
    Stays w (passed_on w q e rest (goes_on w.tree w.nodes (link_of_queue q) e.packet))
goes-stay w q e rest here stays = by_sort (is_switch w.tree (end_of w.tree.links (link_of_queue q)))
  where
    x : ℕ
    x = end_of w.tree.links (link_of_queue q)

    by_link : (o : Option ℕ) → Stays w (passes x (channel_of q) e (option_map_or (λ (d : ℕ). Passes d e.packet) o Ends) (leaves q rest w))
    by_link None = stays
    by_link (Some d) = joins-stay w (leaves q rest w) (queue_of d (channel_of q)) e here stays

    by_sort : (b : Bool) → Stays w (passes x (channel_of q) e (if b then by_table w.tree w.nodes (link_of_queue q) e.packet else Arrives) (leaves q rest w))
    by_sort true = by_link (sent_on w.tree (exits_of w.nodes) e.packet.dst (link_of_queue q))
    by_sort false = arrives-stay w (leaves q rest w) x e e.packet.body here stays

hops-stay : (w : State) (q : ℕ) (es : List Entry) → queue_at w.queues q ≡ es → AreOfStreams w → Stays w (hops q es w)
hops-stay w q [] is each = record {
  queued = each;
  nodes = refl;
}
hops-stay w q (e ∷ rest) is each =
    let here : OfStream e = (subst (AllByRecursion OfStream) is (each q)).0 in
    subst (λ (passed : Passing). Stays w (passed_on w q e rest passed)) (sym (goes-by_table w.tree w.nodes (link_of_queue q) e.packet e.packet.body here))
    (goes-stay w q e rest here (leaves-stay w q e rest is each))

-- ---- the other events

ahead-is : (b : Body) → GoesAhead b → IsOfStream b
ahead-is (body.Samples time payload) goes = tt
ahead-is (body.Command c) goes = tt
ahead-is (body.Status status) goes = absurd goes
ahead-is (body.Control control) goes = absurd goes
ahead-is (body.Management m) goes = absurd goes

enters-stay : (w : State) (s : ℕ) (ps : List Packet) → (stream_at w s).ready ≡ ps → AreReady w → Stays w w → Stays w (enters s ps w)
enters-stay w s [] is ready stays = stays
enters-stay w s (p ∷ rest) is ready stays = on-stay w _ s (sends_first (plan_at w.plan s) p rest)
    (over-stay w w (first_link w.tree (plan_at w.plan s).from) _ _ _ _ (ahead-is p.body (ready.samples s p rest is)) stays)

feeds-stay : (w : State) (block : BlockPlan) (i : ℕ) → Stays w w → Stays w (feeds block i w)
feeds-stay w block i stays = by_stream (stream_into w.plan block i)
  where
    by_packet : (s : ℕ) (o : Option Packet) → Stays w (option_map_or (λ (p : Packet). gives_out block (gives (kept_at w block) i p) (on_stream s (taken_to ((stream_at w s).taken + 1)) w)) o w)
    by_packet s None = stays
    by_packet s (Some p) =
        let given = gives (kept_at w block) i p in
        any-stay w _ (stream_out_of w.plan block 1) (readies given.second)
        (any-stay w _ (stream_out_of w.plan block 0) (readies given.first) (on-stay w w s (taken_to ((stream_at w s).taken + 1)) stays))

    by_stream : (o : Option ℕ) → Stays w (option_map_or (λ (s : ℕ). feeds_from block i s w) o w)
    by_stream None = stays
    by_stream (Some s) = by_packet s (slice_get (stream_at w s).given (stream_at w s).taken)

loses-stay : (w : State) (q : ℕ) (es : List Entry) → queue_at w.queues q ≡ es → Stays w w → Stays w (loses_front q es w)
loses-stay w q [] is stays = stays
loses-stay w q (e ∷ rest) is stays = any-stay w (leaves q rest w) (stream_of w e.packet e.packet.body) (loses e) (leaves-stay w q e rest is stays.queued)

event-stays : (w : State) (e : Event) → AreReady w → HasNoMessages w → IsTrue (enabled w e) → Stays w w → Stays w (after w e)
unfolding after
event-stays w (Enter s) ready none may_it stays = enters-stay w s (stream_at w s).ready refl ready stays
event-stays w (Command s op) ready none may_it stays = on-stay w _ s (sends_order op) (over-stay w w (first_link w.tree (plan_at w.plan s).from) _ _ _ _ tt stays)
event-stays w (Report s) ready none may_it stays = on-stay w _ s sends_status (over-stay w w (first_link w.tree (plan_at w.plan s).to) _ _ _ _ tt stays)
event-stays w (Seen s n) ready none may_it stays = on-stay w w s (taken_to n) stays
event-stays w (Feed b i) ready none may_it stays = feeds-stay w (block_at w.plan b) i stays
event-stays w (Ask x) ready none may_it stays = absurd (no-ask w x none.asks may_it)
event-stays w (Reply x) ready none may_it stays = absurd (no-reply w x none.replies may_it)
event-stays w (Lose q) ready none may_it stays = loses-stay w q (queue_at w.queues q) refl stays
event-stays w (Hop q) ready none may_it stays = hops-stay w q (queue_at w.queues q) refl stays.queued

-- ---- so no message comes

pub none-come : NoMessagesCome
none-come w e lawful none may_it =
    let stays : Stays w (after w e) = event-stays w e (steady_is_ready w lawful.steady) none may_it (record { queued = none.queued; nodes = refl }) in
    let tree : (after w e).tree ≡ w.tree = (shape_stays w (Happens e)).tree in
    record {
      none = record {
        queued = stays.queued;
        asks = λ x d is. ap (λ (nodes : List Node). (node_in nodes x).requests) stays.nodes ∙ none.asks x d (sym (ap (λ (t : Plan). link_at t.links x 0) tree) ∙ is);
        replies = λ x. held (after w e) x tree stays.nodes (none.replies x);
      };
      nodes = stays.nodes;
    }
  where
    held : (v : State) (x : ℕ) → v.tree ≡ w.tree → v.nodes ≡ w.nodes → NoneLeaves w x (node_at w x).pending → NoneLeaves v x (node_at v x).pending
    held v x tree nodes first =
        subst (λ (ps : List Packet). NoneLeaves v x ps) (sym (ap (λ (ns : List Node). (node_in ns x).pending) nodes)) (by_pending (node_at w x).pending first)
      where
        by_pending : (ps : List Packet) → NoneLeaves w x ps → NoneLeaves v x ps
        by_pending [] first = tt
        by_pending (p ∷ ps) first = (λ i. route_from (tree i) (nodes i) x p.dst) ∙ first
