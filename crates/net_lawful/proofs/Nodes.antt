-- Nodes stay fit: their tables name ports, and what waits at them can be performed, operated and spelled.
use Rattle.std.proofs.Common.{◌≡◌, ℕ, ◌+◌, ◌*◌, ◌<◌, ◌≤◌, ◌⊎◌, inl, inr, Bool, true, false, List, [], ◌∷◌, ◌++◌, length, refl, sym, ◌∙◌, subst, set, arith, if◌then◌else◌}
use Rattle.std.specs.Prelude.{Option, Some, None, slice_get, nat_lt, ◌==◌}
use Rattle.std.specs.List.{AllByRecursion}
use Rattle.std.specs.Option.{option_map_or}
use Rattle.std.proofs.lemmas.Bool.{cases_lt}
use Rattle.std.proofs.lemmas.Bool.Decides.{nat_tests}
use Rattle.std.proofs.lemmas.List.{get_or_past}
use Rattle.rf_base.proofs.Places.{one-set}
use Rattle.block_library.specs.Memory.{gives}
use Rattle.block_registers.specs.Operations.{answer}
use Rattle.chdr_packets.specs.declared.packet.Body.{Body}
use Rattle.chdr_packets.specs.declared.packet.Body.TheVariants as body
use Rattle.chdr_packets.specs.declared.packet.Packet.{Packet}
use Rattle.chdr_words.specs.declared.management.Management.{Management}
use Rattle.net_nodes.specs.Budget.{performed_packet}
use Rattle.net_nodes.specs.Table.{HasEntries}
use Rattle.net_nodes.specs.declared.site.Done.{Done}
use Rattle.net_nodes.specs.declared.site.Done.TheVariants.{Forward, Return, NoSuchPort, Dead}
use Rattle.net_nodes.specs.declared.table.Place.{Place}
use Rattle.net_nodes.proofs.Laws.{entries_are_ports}
use Rattle.net_topology.specs.Leads.{sent_on}
use Rattle.net_topology.specs.Links.{end_of, end_port, link_at}
use Rattle.net_topology.specs.Tree.{IsTree, port_count}
use Rattle.net_topology.specs.declared.plan.Plan.{Plan}
use Rattle.net_faults.specs.declared.fault.Fault.TheVariants as fault
use Rattle.net_machine.specs.declared.event.Event.{Event}
use Rattle.net_machine.specs.declared.event.Event.TheVariants.{Enter, Hop, Seen, Feed, Report, Command, Lose, Reply, Ask}
use Rattle.net_machine.specs.declared.plan.BlockPlan.{BlockPlan}
use Rattle.net_machine.specs.Blocks.{kept_at}
use Rattle.net_machine.specs.Effects.{after, answers_host, arrives, asks_first, enters, enters_over, feeds, feeds_from, gives_out, hears_status, hops, leaves, loses_front, on_any_stream, on_node, on_stream, operates, passes, pends, replies_first, stream_of}
use Rattle.net_machine.specs.Faults.{is_named}
use Rattle.net_machine.specs.Nodes.{exits_of, is_host_at, is_switch, own_epid, place_at, route_from, site_at}
use Rattle.net_machine.specs.Passing.{Outcome, Passes, Returns, Arrives, Ends, Passing, by_table, goes_on, leaves_by, message, passing, passing_by, returned, walked_by, walking, with_table}
use Rattle.net_machine.specs.Plans.{block_at, first_link, plan_at, stream_from, stream_into, stream_out_of, stream_to}
use Rattle.net_machine.specs.Queues.{back_vc, channel_of, forward_vc, link_of_queue}
use Rattle.net_machine.specs.State.{Entry, Message, Node, State, Stream, Tag, blank, node_at, node_in, queue_at, stream_at}
use Rattle.net_machine.specs.Streams.{counts_in, gets, gets_order, loses, readies, taken_to}
use Rattle.net_machine.proofs.Laws.{queues}
use Rattle.net_ways.specs.Ways.{HasQueues}
use Rattle.net_lawful.specs.Laws.{NodesCanPerform}
use Rattle.net_lawful.specs.Messages.{AreFit, AreEntriesFit, AreNodesFit, FitsTree, IsAnswerFit, IsFit, IsManagementFit, IsNodeFit}
use Rattle.net_lawful.proofs.Entering.{more}
use Rattle.net_lawful.proofs.Fitting.{IsPerformedFit, entries-higher, answer-fit, performed-fit, site-fits}

-- ---- nodes change

-- these nodes of a tree are fit
abbrev pub Hold : Plan → List Node → Type 0
Hold tree nodes = (x : ℕ) → IsNodeFit tree x (node_in nodes x)

hold-set : (tree : Plan) (nodes : List Node) (x : ℕ) (n : Node) → Hold tree nodes → IsNodeFit tree x n → Hold tree (set nodes x n)
hold-set tree nodes x n each here = one-set {B = ℕ} (λ y node none. IsNodeFit tree y node) nodes [] blank 0 n x each here

pends-hold : (x : ℕ) (p : Packet) (w : State) → IsAnswerFit p → AreNodesFit w → AreNodesFit (pends x p w)
pends-hold x p w here each = by_route (route_from w.tree w.nodes x p.dst)
  where
    by_route : (o : Option ℕ) → AreNodesFit (option_map_or (λ (d : ℕ). on_node x (λ (n : Node). record n { pending = n.pending ++ p ∷ [] }) w) o w)
    by_route None = each
    by_route (Some d) = hold-set w.tree w.nodes x (record (node_at w x) { pending = (node_at w x).pending ++ p ∷ [] }) each (record {
      table = (each x).table;
      requests = (each x).requests;
      pending = more IsAnswerFit (node_at w x).pending p (each x).pending here;
      answers = (each x).answers;
    })

answers-hold : (x : ℕ) (p : Packet) (w : State) → IsFit p p.body → AreNodesFit w → AreNodesFit (answers_host x p w)
answers-hold x p w here each = by_host (is_host_at w.tree x)
  where
    by_host : (b : Bool) → AreNodesFit (if b then on_node x (λ (n : Node). record n { answers = n.answers ++ p ∷ [] }) w else w)
    by_host true = hold-set w.tree w.nodes x (record (node_at w x) { answers = (node_at w x).answers ++ p ∷ [] }) each (record {
      table = (each x).table;
      requests = (each x).requests;
      pending = (each x).pending;
      answers = more (λ (q : Packet). IsFit q q.body) (node_at w x).answers p (each x).answers here;
    })
    by_host false = each

any-hold : (o : Option ℕ) (next : Stream → Stream) (w : State) → AreNodesFit w → AreNodesFit (on_any_stream o next w)
any-hold None next w each = each
any-hold (Some s) next w each = each

over-hold : (o : Option ℕ) (vc : ℕ) (marked : Bool) (p : Packet) (tag : Tag) (w : State) → AreNodesFit w → AreNodesFit (enters_over o vc marked p tag w)
over-hold None vc marked p tag w each = each
over-hold (Some d) vc marked p tag w each = each

heard-hold : (o : Option ℕ) (tag : Tag) (w : State) → AreNodesFit w → AreNodesFit (option_map_or (λ (s : ℕ). hears_status tag s w) o w)
heard-hold None tag w each = each
heard-hold (Some s) tag w each = each

arrives-hold : (x : ℕ) (e : Entry) (b : Body) (w : State) → e.packet.body ≡ b → IsFit e.packet b → AreNodesFit w → AreNodesFit (arrives x e b w)
arrives-hold x e (body.Samples time payload) w is fit each = any-hold (stream_to w.plan (own_epid w.tree x)) (gets e.packet) w each
arrives-hold x e (body.Command c) w is fit each = any-hold (stream_to w.plan (own_epid w.tree x)) (gets_order c.op (counts_in e.tag)) w each
arrives-hold x e (body.Status status) w is fit each = heard-hold (stream_from w.plan (own_epid w.tree x)) e.tag w each
arrives-hold x e (body.Control control) w is fit each = by_ack control.ack refl
  where
    by_ack : (b : Bool) → control.ack ≡ b → AreNodesFit (if b then answers_host x e.packet w else operates x control w)
    by_ack true ack = answers-hold x e.packet w (subst (IsFit e.packet) (sym is) fit) each
    by_ack false ack =
        pends-hold x (message back_vc control.src (body.Control (answer (own_epid w.tree x) (place_at w x control.dst_port) control))) (record w { banks = _ })
        (answer-fit (own_epid w.tree x) (place_at w x control.dst_port) e.packet control is fit ack) each
arrives-hold x e (body.Management m) w is fit each = answers-hold x e.packet w (subst (IsFit e.packet) (sym is) fit) each

-- ---- a Hop

-- what returns is a fit answer
abbrev ReturnsFit : Outcome → Type 0
ReturnsFit (Passes d p) = Unit {0}
ReturnsFit (Returns p) = IsAnswerFit p
ReturnsFit Arrives = Unit {0}
ReturnsFit Ends = Unit {0}

-- what a packet leaves at a node
record PassesWell (tree : Plan) (passed : Passing) : Type 0 where
  outcome : ReturnsFit passed.outcome
  nodes : Hold tree passed.nodes

over-returns : (o : Option ℕ) (p : Packet) → ReturnsFit (option_map_or (λ (d : ℕ). Passes d p) o Ends)
over-returns None p = tt
over-returns (Some d) p = tt

leaves-returns : (tree : Plan) (x : ℕ) (p : Packet) (m : Management) (exit : Done) → IsAnswerFit (returned p m) → ReturnsFit (leaves_by tree x p m exit)
leaves-returns tree x p m (Forward port) fit = over-returns (link_at tree.links x port) (walking p m)
leaves-returns tree x p m Return fit = fit
leaves-returns tree x p m (NoSuchPort port) fit = fit
leaves-returns tree x p m Dead fit = tt

goes-well : (tree : Plan) (nodes : List Node) (d : ℕ) (p : Packet) → Hold tree nodes → PassesWell tree (goes_on tree nodes d p)
goes-well tree nodes d p each = record { outcome = by_sort (is_switch tree (end_of tree.links d)); nodes = each }
  where
    by_sort : (b : Bool) → ReturnsFit (if b then by_table tree nodes d p else Arrives)
    by_sort true = over-returns (sent_on tree (exits_of nodes) p.dst d) p
    by_sort false = tt

pub two-hops : (n : ℕ) → nat_lt n 2 ≡ false → 2 ≤ n
two-hops n is = grind (arith, nat_tests)

pub performed-at : (tree : Plan) (nodes : List Node) (d : ℕ) (p : Packet) (m : Management) → IsTree tree → FitsTree tree → d < 2 * length tree.links → Hold tree nodes →
    p.body ≡ body.Management m → IsManagementFit p m → nat_lt (length m.hops) 2 ≡ false →
    IsPerformedFit p (performed_packet (site_at tree (end_of tree.links d) (end_port tree.links d)) (node_in nodes (end_of tree.links d)).table m)
performed-at tree nodes d p m is fits lt each has fit two =
    performed-fit (site_at tree (end_of tree.links d) (end_port tree.links d)) (port_count tree.nodes (end_of tree.links d)) (node_in nodes (end_of tree.links d)).table p m
    (site-fits tree d is fits lt) (each (end_of tree.links d)).table has fit (two-hops (length m.hops) two)

table-holds : (tree : Plan) (nodes : List Node) (d : ℕ) (m : Management) → IsTree tree → FitsTree tree → d < 2 * length tree.links → Hold tree nodes → (table : List Place) →
    HasEntries (port_count tree.nodes (end_of tree.links d)) table → Hold tree (with_table nodes (end_of tree.links d) table)
table-holds tree nodes d m is fits lt each table entries =
    let x = end_of tree.links d in
    hold-set tree nodes x (record (node_in nodes x) { table = table }) each
    (record { table = entries; requests = (each x).requests; pending = (each x).pending; answers = (each x).answers })

passing-well : (tree : Plan) (nodes : List Node) (d : ℕ) (p : Packet) (b : Body) → IsTree tree → FitsTree tree → d < 2 * length tree.links → Hold tree nodes →
    p.body ≡ b → IsFit p b → PassesWell tree (passing_by tree nodes d p b)
passing-well tree nodes d p (body.Samples time payload) is fits lt each has fit = goes-well tree nodes d p each
passing-well tree nodes d p (body.Status status) is fits lt each has fit = goes-well tree nodes d p each
passing-well tree nodes d p (body.Command c) is fits lt each has fit = goes-well tree nodes d p each
passing-well tree nodes d p (body.Control control) is fits lt each has fit = goes-well tree nodes d p each
passing-well tree nodes d p (body.Management m) is fits lt each has fit = by_epid (p.dst.0 == 0) (nat_lt (length m.hops) 2) refl
  where
    by_epid : (b c : Bool) → nat_lt (length m.hops) 2 ≡ c → PassesWell tree (if b
        then (if c then record { outcome = Ends; nodes = nodes } else walked_by tree nodes d p m)
        else goes_on tree nodes d p)
    by_epid true true two = record { outcome = tt; nodes = each }
    by_epid true false two =
        let site = site-fits tree d is fits lt in
        record {
          outcome = leaves-returns tree (end_of tree.links d) p _ _ (performed-at tree nodes d p m is fits lt each has fit two).goes_back;
          nodes = table-holds tree nodes d m is fits lt each _
              (entries_are_ports (site_at tree (end_of tree.links d) (end_port tree.links d)) (node_in nodes (end_of tree.links d)).table m
              (port_count tree.nodes (end_of tree.links d)) site.arrival site.ports (each (end_of tree.links d)).table);
        }
    by_epid false c two = goes-well tree nodes d p each

passes-hold : (x vc : ℕ) (e : Entry) (o : Outcome) (w : State) → IsFit e.packet e.packet.body → ReturnsFit o → AreNodesFit w → AreNodesFit (passes x vc e o w)
passes-hold x vc e (Passes d p) w fit here each = each
passes-hold x vc e (Returns p) w fit here each = pends-hold x p w here each
passes-hold x vc e Arrives w fit here each = arrives-hold x e e.packet.body w refl fit each
passes-hold x vc e Ends w fit here each = each

-- a queue with an entry is there
pub queue-there : (w : State) (q : ℕ) (e : Entry) (rest : List Entry) → queue_at w.queues q ≡ e ∷ rest → q < length w.queues
queue-there w q e rest is = by_order (cases_lt q (length w.queues))
  where
    none : [] ≡ e ∷ rest → ⊥
    none same = cc

    by_order : (q < length w.queues) ⊎ (length w.queues ≤ q) → q < length w.queues
    by_order (inl lt) = lt
    by_order (inr past) = absurd (none (sym (get_or_past w.queues q [] past) ∙ is))

pub link-there : (w : State) (q : ℕ) (e : Entry) (rest : List Entry) → HasQueues w → queue_at w.queues q ≡ e ∷ rest → link_of_queue q < 2 * length w.tree.links
link-there w q e rest has is = queues.of w.tree q (subst (λ n. q < n) has.queues (queue-there w q e rest is))

hops-hold : (q : ℕ) (entries : List Entry) (w : State) → queue_at w.queues q ≡ entries → HasQueues w → FitsTree w.tree → AreEntriesFit w → AreNodesFit w → AreNodesFit (hops q entries w)
hops-hold q [] w is has fits entries each = each
hops-hold q (e ∷ rest) w is has fits entries each =
    let passed = passing w.tree w.nodes (link_of_queue q) e.packet in
    let fit : IsFit e.packet e.packet.body = (subst (AllByRecursion (λ (f : Entry). IsFit f.packet f.packet.body)) is (entries q)).0 in
    let well = passing-well w.tree w.nodes (link_of_queue q) e.packet e.packet.body has.tree fits (link-there w q e rest has is) each refl fit in
    passes-hold (end_of w.tree.links (link_of_queue q)) (channel_of q) e passed.outcome (record (leaves q rest w) { nodes = passed.nodes }) fit well.outcome well.nodes

-- so the node at its end is a site that fits, and so are its table's entries
pub can-perform : NodesCanPerform
can-perform w q e rest lawful is =
    let site = site-fits w.tree (link_of_queue q) lawful.steady.queues.tree lawful.tree (link-there w q e rest lawful.steady.queues is) in
    record {
      site = site.fits;
      entries = entries-higher (port_count w.tree.nodes (end_of w.tree.links (link_of_queue q))) (node_at w (end_of w.tree.links (link_of_queue q))).table site.few (lawful.nodes (end_of w.tree.links (link_of_queue q))).table;
    }

-- ---- the other events

enters-hold : (s : ℕ) (packets : List Packet) (w : State) → AreNodesFit w → AreNodesFit (enters s packets w)
enters-hold s [] w each = each
enters-hold s (p ∷ rest) w each = over-hold (first_link w.tree (plan_at w.plan s).from) _ _ _ _ w each

feeds-hold : (block : BlockPlan) (i : ℕ) (w : State) → AreNodesFit w → AreNodesFit (feeds block i w)
feeds-hold block i w each = by_stream (stream_into w.plan block i)
  where
    by_packet : (s : ℕ) (o : Option Packet) → AreNodesFit (option_map_or (λ (p : Packet). gives_out block (gives (kept_at w block) i p) (on_stream s (taken_to ((stream_at w s).taken + 1)) w)) o w)
    by_packet s None = each
    by_packet s (Some p) =
        any-hold (stream_out_of w.plan block 1) (readies (gives (kept_at w block) i p).second) (on_any_stream (stream_out_of w.plan block 0) (readies (gives (kept_at w block) i p).first) (on_stream s (taken_to ((stream_at w s).taken + 1)) w))
        (any-hold (stream_out_of w.plan block 0) (readies (gives (kept_at w block) i p).first) (on_stream s (taken_to ((stream_at w s).taken + 1)) w) each)

    by_stream : (o : Option ℕ) → AreNodesFit (option_map_or (λ (s : ℕ). feeds_from block i s w) o w)
    by_stream None = each
    by_stream (Some s) = by_packet s (slice_get (stream_at w s).given (stream_at w s).taken)

asks-hold : (w : State) (x : ℕ) (packets : List Packet) → (node_at w x).requests ≡ packets → AreNodesFit w → AreNodesFit (asks_first x packets w)
asks-hold w x [] is each = each
asks-hold w x (p ∷ rest) is each = by_link (link_at w.tree.links x 0)
  where
    left : IsNodeFit w.tree x (record (node_at w x) { requests = rest })
    left = record { table = (each x).table; requests = (subst AreFit is (each x).requests).1; pending = (each x).pending; answers = (each x).answers }

    by_link : (o : Option ℕ) → AreNodesFit (on_node x (λ (n : Node). record n { requests = rest }) (enters_over o forward_vc (is_named w.faults (fault.Request w.requests)) p Message (record w { requests = w.requests + 1 })))
    by_link None = hold-set w.tree w.nodes x (record (node_at w x) { requests = rest }) each left
    by_link (Some d) = hold-set w.tree w.nodes x (record (node_at w x) { requests = rest }) each left

replies-hold : (w : State) (x : ℕ) (packets : List Packet) → (node_at w x).pending ≡ packets → AreNodesFit w → AreNodesFit (replies_first x packets w)
replies-hold w x [] is each = each
replies-hold w x (p ∷ rest) is each = by_link (route_from w.tree w.nodes x p.dst)
  where
    left : IsNodeFit w.tree x (record (node_at w x) { pending = rest })
    left = record { table = (each x).table; requests = (each x).requests; pending = (subst (AllByRecursion IsAnswerFit) is (each x).pending).1; answers = (each x).answers }

    by_link : (o : Option ℕ) → AreNodesFit (on_node x (λ (n : Node). record n { pending = rest }) (enters_over o back_vc (is_named w.faults (fault.Answer w.answers)) p Message (record w { answers = w.answers + 1 })))
    by_link None = hold-set w.tree w.nodes x (record (node_at w x) { pending = rest }) each left
    by_link (Some d) = hold-set w.tree w.nodes x (record (node_at w x) { pending = rest }) each left

loses-hold : (q : ℕ) (entries : List Entry) (w : State) → AreNodesFit w → AreNodesFit (loses_front q entries w)
loses-hold q [] w each = each
loses-hold q (e ∷ rest) w each = any-hold (stream_of w e.packet e.packet.body) (loses e) (leaves q rest w) each

pub nodes-stay : (w : State) (e : Event) → HasQueues w → FitsTree w.tree → AreEntriesFit w → AreNodesFit w → AreNodesFit (after w e)
unfolding after
nodes-stay w (Enter s) has fits entries each = enters-hold s (stream_at w s).ready w each
nodes-stay w (Command s op) has fits entries each = over-hold (first_link w.tree (plan_at w.plan s).from) _ _ _ _ w each
nodes-stay w (Report s) has fits entries each = over-hold (first_link w.tree (plan_at w.plan s).to) _ _ _ _ w each
nodes-stay w (Seen s n) has fits entries each = each
nodes-stay w (Feed b i) has fits entries each = feeds-hold (block_at w.plan b) i w each
nodes-stay w (Ask x) has fits entries each = asks-hold w x (node_at w x).requests refl each
nodes-stay w (Reply x) has fits entries each = replies-hold w x (node_at w x).pending refl each
nodes-stay w (Lose q) has fits entries each = loses-hold q (queue_at w.queues q) w each
nodes-stay w (Hop q) has fits entries each = hops-hold q (queue_at w.queues q) w refl has fits entries each
