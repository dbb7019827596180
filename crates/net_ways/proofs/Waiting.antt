-- The requests and pending answers of nodes stay packets of no stream, on their channels.
use Rattle.std.proofs.Common.{◌≡◌, ℕ, ◌+◌, Bool, true, false, List, [], ◌∷◌, ◌++◌, length, drop, map, refl, sym, ◌∙◌, ap, subst, get_or, set, zero, suc, if◌then◌else◌}
use Rattle.std.specs.Prelude.{Option, Some, None, slice_get, nat_lt, ◌==◌}
use Rattle.std.specs.Option.{option_map_or}
use Rattle.std.specs.List.{AllByRecursion, range_with_len}
use Rattle.rf_base.proofs.Places.{one-set}
use Rattle.block_library.specs.Memory.{gives}
use Rattle.block_registers.specs.Operations.{answer}
use Rattle.chdr_packets.specs.declared.packet.Body.{Body}
use Rattle.chdr_packets.specs.declared.packet.Body.TheVariants as body
use Rattle.chdr_packets.specs.declared.packet.Packet.{Packet}
use Rattle.chdr_words.specs.declared.control.Control.{Control}
use Rattle.chdr_words.specs.declared.management.Management.{Management}
use Rattle.net_nodes.specs.declared.site.Done.{Done}
use Rattle.net_nodes.specs.declared.site.Done.TheVariants.{Forward, Return, NoSuchPort, Dead}
use Rattle.net_nodes.specs.declared.table.Place.{Place}
use Rattle.net_topology.specs.Leads.{sent_on}
use Rattle.net_topology.specs.Links.{end_of, link_at}
use Rattle.net_topology.specs.declared.plan.Plan.{Plan}
use Rattle.net_faults.specs.declared.fault.Fault.TheVariants as fault
use Rattle.net_machine.specs.declared.event.Event.{Event}
use Rattle.net_machine.specs.declared.event.Event.TheVariants.{Enter, Hop, Seen, Feed, Report, Command, Lose, Reply, Ask}
use Rattle.net_machine.specs.declared.plan.BlockPlan.{BlockPlan}
use Rattle.net_machine.specs.Begin.{built_node, epids_of, place_for}
use Rattle.net_machine.specs.Blocks.{kept_at}
use Rattle.net_machine.specs.Effects.{after, answers_host, arrives, asks_first, enters, enters_over, feeds, feeds_from, gives_out, hears_status, hops, leaves, loses_front, on_any_stream, on_node, on_stream, operates, orders, passes, pends, replies_first, reports, stream_of}
use Rattle.net_machine.specs.Faults.{is_named}
use Rattle.net_machine.specs.Moves.{CanAsk, Happens, Asks, Answered, IsRequest, Marks, Loads}
use Rattle.net_machine.specs.Nodes.{exits_of, is_host_at, is_switch, own_epid, place_at, route_from}
use Rattle.net_machine.specs.Passing.{Outcome, Passes, Returns, Arrives, Ends, Passing, by_table, goes_on, leaves_by, message, passing, passing_by, returned, walked_by, walking, with_table}
use Rattle.net_machine.specs.Plans.{block_at, first_link, plan_at, stream_from, stream_into, stream_out_of, stream_to}
use Rattle.net_machine.specs.Queues.{back_vc, channel_of, forward_vc, link_of_queue}
use Rattle.net_machine.specs.State.{Entry, Message, Node, State, Stream, Tag, blank, node_at, node_in, queue_at, stream_at}
use Rattle.net_machine.specs.Streams.{counts_in, gets, gets_order, loses, readies, taken_to}
use Rattle.net_ways.specs.Standing.{AreMessages, BuiltHoldsMessages, HoldsMessages, IsMessage, IsMessageOn, MessagesStay}

-- ---- nodes change

-- these nodes hold messages alone
abbrev Hold : List Node → Type 0
Hold nodes = (x : ℕ) → HoldsMessages (node_in nodes x)

hold-set : (nodes : List Node) (x : ℕ) (n : Node) → Hold nodes → HoldsMessages n → Hold (set nodes x n)
hold-set nodes x n each here = one-set {B = ℕ} (λ y node none. HoldsMessages node) nodes [] blank 0 n x each here

more : {A : Type 0} (P : A → Type 0) (xs : List A) (x : A) → AllByRecursion P xs → P x → AllByRecursion P (xs ++ x ∷ [])
more P [] x each here = (here, tt)
more P (y ∷ xs) x each here = (each.0, more P xs x each.1 here)

with-table : (nodes : List Node) (x : ℕ) (table : List Place) → Hold nodes → Hold (with_table nodes x table)
with-table nodes x table each =
    hold-set nodes x (record (node_in nodes x) { table = table }) each
    (record { requests = (each x).requests; pending = (each x).pending })

pends-hold : (x : ℕ) (p : Packet) (w : State) → IsMessageOn back_vc p → AreMessages w → AreMessages (pends x p w)
pends-hold x p w here each = by_route (route_from w.tree w.nodes x p.dst)
  where
    by_route : (o : Option ℕ) → AreMessages (option_map_or (λ (d : ℕ). on_node x (λ (n : Node). record n { pending = n.pending ++ p ∷ [] }) w) o w)
    by_route None = each
    by_route (Some d) = hold-set w.nodes x (record (node_at w x) { pending = (node_at w x).pending ++ p ∷ [] }) each
        (record { requests = (each x).requests; pending = more (IsMessageOn back_vc) (node_at w x).pending p (each x).pending here })

answers-hold : (x : ℕ) (p : Packet) (w : State) → AreMessages w → AreMessages (answers_host x p w)
answers-hold x p w each = by_host (is_host_at w.tree x)
  where
    by_host : (b : Bool) → AreMessages (if b then on_node x (λ (n : Node). record n { answers = n.answers ++ p ∷ [] }) w else w)
    by_host true = hold-set w.nodes x (record (node_at w x) { answers = (node_at w x).answers ++ p ∷ [] }) each
        (record { requests = (each x).requests; pending = (each x).pending })
    by_host false = each

any-hold : (o : Option ℕ) (next : Stream → Stream) (w : State) → AreMessages w → AreMessages (on_any_stream o next w)
any-hold None next w each = each
any-hold (Some s) next w each = each

over-hold : (o : Option ℕ) (vc : ℕ) (marked : Bool) (p : Packet) (tag : Tag) (w : State) → AreMessages w → AreMessages (enters_over o vc marked p tag w)
over-hold None vc marked p tag w each = each
over-hold (Some d) vc marked p tag w each = each

heard-hold : (o : Option ℕ) (tag : Tag) (w : State) → AreMessages w → AreMessages (option_map_or (λ (s : ℕ). hears_status tag s w) o w)
heard-hold None tag w each = each
heard-hold (Some s) tag w each = each

arrives-hold : (x : ℕ) (e : Entry) (b : Body) (w : State) → AreMessages w → AreMessages (arrives x e b w)
arrives-hold x e (body.Samples time payload) w each = any-hold (stream_to w.plan (own_epid w.tree x)) (gets e.packet) w each
arrives-hold x e (body.Command c) w each = any-hold (stream_to w.plan (own_epid w.tree x)) (gets_order c.op (counts_in e.tag)) w each
arrives-hold x e (body.Status status) w each = heard-hold (stream_from w.plan (own_epid w.tree x)) e.tag w each
arrives-hold x e (body.Control control) w each = by_ack control.ack
  where
    by_ack : (b : Bool) → AreMessages (if b then answers_host x e.packet w else operates x control w)
    by_ack true = answers-hold x e.packet w each
    by_ack false = pends-hold x (message back_vc control.src (body.Control (answer (own_epid w.tree x) (place_at w x control.dst_port) control))) (record w { banks = _ }) (refl, tt) each
arrives-hold x e (body.Management m) w each = answers-hold x e.packet w each

-- ---- a Hop

-- what returns is a message
abbrev ReturnsMessage : Outcome → Type 0
ReturnsMessage (Passes d p) = Unit {0}
ReturnsMessage (Returns p) = IsMessageOn back_vc p
ReturnsMessage Arrives = Unit {0}
ReturnsMessage Ends = Unit {0}

-- what a packet leaves at a node
record PassesWell (passed : Passing) : Type 0 where
  outcome : ReturnsMessage passed.outcome
  nodes : Hold passed.nodes

over-returns : (o : Option ℕ) (p : Packet) → ReturnsMessage (option_map_or (λ (d : ℕ). Passes d p) o Ends)
over-returns None p = tt
over-returns (Some d) p = tt

leaves-returns : (tree : Plan) (x : ℕ) (p : Packet) (m : Management) (exit : Done) → ReturnsMessage (leaves_by tree x p m exit)
leaves-returns tree x p m (Forward port) = over-returns (link_at tree.links x port) (walking p m)
leaves-returns tree x p m Return = (refl, tt)
leaves-returns tree x p m (NoSuchPort port) = (refl, tt)
leaves-returns tree x p m Dead = tt

goes-well : (tree : Plan) (nodes : List Node) (d : ℕ) (p : Packet) → Hold nodes → PassesWell (goes_on tree nodes d p)
goes-well tree nodes d p each = record { outcome = by_sort (is_switch tree (end_of tree.links d)); nodes = each }
  where
    by_sort : (b : Bool) → ReturnsMessage (if b then by_table tree nodes d p else Arrives)
    by_sort true = over-returns (sent_on tree (exits_of nodes) p.dst d) p
    by_sort false = tt

passing-well : (tree : Plan) (nodes : List Node) (d : ℕ) (p : Packet) (b : Body) → Hold nodes → PassesWell (passing_by tree nodes d p b)
passing-well tree nodes d p (body.Samples time payload) each = goes-well tree nodes d p each
passing-well tree nodes d p (body.Status status) each = goes-well tree nodes d p each
passing-well tree nodes d p (body.Command c) each = goes-well tree nodes d p each
passing-well tree nodes d p (body.Control control) each = goes-well tree nodes d p each
passing-well tree nodes d p (body.Management m) each = by_epid (p.dst.0 == 0) (nat_lt (length m.hops) 2)
  where
    by_epid : (b c : Bool) → PassesWell (if b
        then (if c then record { outcome = Ends; nodes = nodes } else walked_by tree nodes d p m)
        else goes_on tree nodes d p)
    by_epid true true = record { outcome = tt; nodes = each }
    by_epid true false = record {
      outcome = leaves-returns tree (end_of tree.links d) p _ _;
      nodes = with-table nodes (end_of tree.links d) _ each;
    }
    by_epid false c = goes-well tree nodes d p each

passes-hold : (x vc : ℕ) (e : Entry) (o : Outcome) (w : State) → ReturnsMessage o → AreMessages w → AreMessages (passes x vc e o w)
passes-hold x vc e (Passes d p) w here each = each
passes-hold x vc e (Returns p) w here each = pends-hold x p w here each
passes-hold x vc e Arrives w here each = arrives-hold x e e.packet.body w each
passes-hold x vc e Ends w here each = each

hops-hold : (q : ℕ) (entries : List Entry) (w : State) → AreMessages w → AreMessages (hops q entries w)
hops-hold q [] w each = each
hops-hold q (e ∷ rest) w each =
    let passed = passing w.tree w.nodes (link_of_queue q) e.packet in
    let well = passing-well w.tree w.nodes (link_of_queue q) e.packet e.packet.body each in
    passes-hold (end_of w.tree.links (link_of_queue q)) (channel_of q) e passed.outcome (record (leaves q rest w) { nodes = passed.nodes }) well.outcome well.nodes

-- ---- the other events

enters-hold : (s : ℕ) (packets : List Packet) (w : State) → AreMessages w → AreMessages (enters s packets w)
enters-hold s [] w each = each
enters-hold s (p ∷ rest) w each = over-hold (first_link w.tree (plan_at w.plan s).from) _ _ _ _ w each

feeds-hold : (block : BlockPlan) (i : ℕ) (w : State) → AreMessages w → AreMessages (feeds block i w)
feeds-hold block i w each = by_stream (stream_into w.plan block i)
  where
    by_packet : (s : ℕ) (o : Option Packet) → AreMessages (option_map_or (λ (p : Packet). gives_out block (gives (kept_at w block) i p) (on_stream s (taken_to ((stream_at w s).taken + 1)) w)) o w)
    by_packet s None = each
    by_packet s (Some p) =
        any-hold (stream_out_of w.plan block 1) (readies (gives (kept_at w block) i p).second) (on_any_stream (stream_out_of w.plan block 0) (readies (gives (kept_at w block) i p).first) (on_stream s (taken_to ((stream_at w s).taken + 1)) w))
        (any-hold (stream_out_of w.plan block 0) (readies (gives (kept_at w block) i p).first) (on_stream s (taken_to ((stream_at w s).taken + 1)) w) each)

    by_stream : (o : Option ℕ) → AreMessages (option_map_or (λ (s : ℕ). feeds_from block i s w) o w)
    by_stream None = each
    by_stream (Some s) = by_packet s (slice_get (stream_at w s).given (stream_at w s).taken)

-- the first request, or the first pending answer, leaves its node
asks-hold : (w : State) (x : ℕ) (packets : List Packet) → (node_at w x).requests ≡ packets → AreMessages w → AreMessages (asks_first x packets w)
asks-hold w x [] is each = each
asks-hold w x (p ∷ rest) is each = by_link (link_at w.tree.links x 0)
  where
    left : HoldsMessages (record (node_at w x) { requests = rest })
    left = record { requests = (subst (AllByRecursion (IsMessageOn forward_vc)) is (each x).requests).1; pending = (each x).pending }

    by_link : (o : Option ℕ) → AreMessages (on_node x (λ (n : Node). record n { requests = rest }) (enters_over o forward_vc (is_named w.faults (fault.Request w.requests)) p Message (record w { requests = w.requests + 1 })))
    by_link None = hold-set w.nodes x (record (node_at w x) { requests = rest }) each left
    by_link (Some d) = hold-set w.nodes x (record (node_at w x) { requests = rest }) each left

replies-hold : (w : State) (x : ℕ) (packets : List Packet) → (node_at w x).pending ≡ packets → AreMessages w → AreMessages (replies_first x packets w)
replies-hold w x [] is each = each
replies-hold w x (p ∷ rest) is each = by_link (route_from w.tree w.nodes x p.dst)
  where
    left : HoldsMessages (record (node_at w x) { pending = rest })
    left = record { requests = (each x).requests; pending = (subst (AllByRecursion (IsMessageOn back_vc)) is (each x).pending).1 }

    by_link : (o : Option ℕ) → AreMessages (on_node x (λ (n : Node). record n { pending = rest }) (enters_over o back_vc (is_named w.faults (fault.Answer w.answers)) p Message (record w { answers = w.answers + 1 })))
    by_link None = hold-set w.nodes x (record (node_at w x) { pending = rest }) each left
    by_link (Some d) = hold-set w.nodes x (record (node_at w x) { pending = rest }) each left

loses-hold : (q : ℕ) (entries : List Entry) (w : State) → AreMessages w → AreMessages (loses_front q entries w)
loses-hold q [] w each = each
loses-hold q (e ∷ rest) w each = any-hold (stream_of w e.packet e.packet.body) (loses e) (leaves q rest w) each

event-holds : (w : State) (e : Event) → AreMessages w → AreMessages (after w e)
unfolding after
event-holds w (Enter s) each = enters-hold s (stream_at w s).ready w each
event-holds w (Command s op) each = over-hold (first_link w.tree (plan_at w.plan s).from) _ _ _ _ w each
event-holds w (Report s) each = over-hold (first_link w.tree (plan_at w.plan s).to) _ _ _ _ w each
event-holds w (Seen s n) each = each
event-holds w (Feed b i) each = feeds-hold (block_at w.plan b) i w each
event-holds w (Ask x) each = asks-hold w x (node_at w x).requests refl each
event-holds w (Reply x) each = replies-hold w x (node_at w x).pending refl each
event-holds w (Lose q) each = loses-hold q (queue_at w.queues q) w each
event-holds w (Hop q) each = hops-hold q (queue_at w.queues q) w each

-- ---- moves

request-message : (w : State) (x : ℕ) (p : Packet) (b : Body) → IsRequest w x p b → IsMessage b
request-message w x p (body.Samples time payload) is = is
request-message w x p (body.Command c) is = is
request-message w x p (body.Status status) is = is
request-message w x p (body.Control control) is = tt
request-message w x p (body.Management m) is = tt

pub messages-stay : MessagesStay
messages-stay w (Happens e) may_it each = event-holds w e each
messages-stay w (Asks x p) can each =
    hold-set w.nodes x (record (node_at w x) { requests = (node_at w x).requests ++ p ∷ [] }) each (record {
      requests = more (IsMessageOn forward_vc) (node_at w x).requests p (each x).requests (can.channel, request-message w x p p.body can.request);
      pending = (each x).pending;
    })
messages-stay w (Answered x) may_it each =
    hold-set w.nodes x (record (node_at w x) { answers = drop 1 (node_at w x).answers }) each
    (record { requests = (each x).requests; pending = (each x).pending })
messages-stay w (Marks faults) may_it each = each
messages-stay w (Loads banks) may_it each = each

-- a node as it is built holds none
built-holds : (tree : Plan) (routed : Bool) (x : ℕ) → HoldsMessages (built_node tree routed x)
built-holds tree routed x = by_sort (is_switch tree x)
  where
    by_sort : (b : Bool) → HoldsMessages (if b then record blank { table = map (place_for tree routed x) (epids_of tree) } else blank)
    by_sort true = record { requests = tt; pending = tt }
    by_sort false = record { requests = tt; pending = tt }

rows-hold : (tree : Plan) (routed : Bool) (a n : ℕ) → Hold (map (built_node tree routed) (range_with_len a n))
rows-hold tree routed a zero x = record { requests = tt; pending = tt }
rows-hold tree routed a (suc n) zero = built-holds tree routed a
rows-hold tree routed a (suc n) (suc x) = rows-hold tree routed (a + 1) n x

pub built-messages : BuiltHoldsMessages
built-messages tree routed banks = rows-hold tree routed 0 (length tree.nodes)
