-- A Hop leaves less work.
use Rattle.std.proofs.Common.{◌≡◌, ℕ, ◌+◌, ◌*◌, ◌-◌, ◌≤◌, ◌<◌, Bool, true, false, List, ◌∷◌, length, drop, Option, Some, None, refl, ap, subst, arith, length-drop, length-set, ◌==◌, if◌then◌else◌}
use Rattle.std.specs.Prelude.{nat_lt}
use Rattle.std.specs.Option.{option_map_or}
use Rattle.std.proofs.lemmas.Bool.{ltb-false}
use Rattle.block_registers.specs.Operations.{Place as Port, acknowledgement, answer}
use Rattle.block_registers.specs.Registers.{Registers}
use Rattle.block_registers.specs.Slots.{slots_after}
use Rattle.chdr_packets.specs.declared.packet.Body.{Body}
use Rattle.chdr_packets.specs.declared.packet.Body.TheVariants as body
use Rattle.chdr_packets.specs.declared.packet.Packet.{Packet}
use Rattle.chdr_words.specs.declared.control.Control.{Control}
use Rattle.chdr_words.specs.declared.epid.Epid.{Epid}
use Rattle.chdr_words.specs.declared.management.Management.{Management}
use Rattle.chdr_words.specs.declared.management.MgmtOp.{MgmtOp}
use Rattle.net_nodes.specs.Perform.{without_first}
use Rattle.net_nodes.specs.declared.site.Done.{Done}
use Rattle.net_nodes.specs.declared.site.Done.TheVariants.{Forward, Return, NoSuchPort, Dead}
use Rattle.net_nodes.specs.declared.table.Place.{Place}
use Rattle.net_topology.specs.Leads.{sent_on}
use Rattle.net_topology.specs.Links.{end_of, link_at}
use Rattle.net_topology.specs.Ranks.{rank_of}
use Rattle.net_topology.specs.Tree.{IsTree}
use Rattle.net_topology.specs.declared.plan.Plan.{Plan}
use Rattle.net_topology.proofs.Laws.{ranks_fall}
use Rattle.net_machine.specs.Effects.{answers_host, arrives, hears_status, hops, leaves, operates, passes}
use Rattle.net_machine.specs.Nodes.{exits_of, is_switch, own_epid, place_at, slot_at}
use Rattle.net_machine.specs.Passing.{Outcome, Passes, Returns, Arrives, Ends, by_table, goes_on, leaves_by, message, passing, passing_by, walked_by, walking, with_table}
use Rattle.net_machine.specs.Plans.{plan_at, stream_from, stream_to}
use Rattle.net_machine.specs.Queues.{back_vc, channel_of, link_of_queue, queue_of}
use Rattle.net_machine.specs.State.{Entry, Node, State, blank, node_in, queue_at}
use Rattle.net_machine.specs.Streams.{counts_in, gets, gets_order, gets_status, told_in}
use Rattle.net_machine.proofs.Laws.{queues}
use Rattle.net_ways.specs.Clear.{Follows}
use Rattle.net_ways.specs.Ways.{HasQueues}
use Rattle.net_ways.proofs.Laws.{outcomes_follow}
use Rattle.net_weights.specs.Work.{burden_by, burden_of, entry_weight, node_weight, node_work, queue_work, stream_work, top_of, work}
use Rattle.net_weights.proofs.Streaming.{gets-weight, order-weight}
use Rattle.net_weights.proofs.Sums.{places-more}
use Rattle.net_weights.proofs.Working.{queue-there, work-any_more, work-answers, work-joins, work-leaves, work-pends, work-stream_more}

-- ---- what comes to an end node

work-banks : (w : State) (banks : List (Option Registers)) → work (record w { banks = banks }) ≡ work w
unfolding work
work-banks w banks = refl

answers-are_acks : (me : Epid) (place : Port) (request : Control) → (answer me place request).ack ≡ true
unfolding acknowledgement
answers-are_acks me place request = refl

pub arrives-work : (x : ℕ) (e : Entry) (b : Body) (w : State) → work (arrives x e b w) ≤ work w + burden_by (top_of w.tree) e.packet b
arrives-work x e (body.Samples time payload) w =
    work-any_more (stream_to w.plan (own_epid w.tree x)) (gets e.packet) (top_of w.tree + 3) w (gets-weight (top_of w.tree) e.packet)
arrives-work x e (body.Command c) w =
    work-any_more (stream_to w.plan (own_epid w.tree x)) (gets_order c.op (counts_in e.tag)) (top_of w.tree + 3) w (order-weight (top_of w.tree) c.op (counts_in e.tag))
arrives-work x e (body.Status status) w = by_stream (stream_from w.plan (own_epid w.tree x))
  where
    by_stream : (o : Option ℕ) → work (option_map_or (λ (s : ℕ). hears_status e.tag s w) o w) ≤ work w + 0
    by_stream None = omega arith
    by_stream (Some s) = work-stream_more s (gets_status (plan_at w.plan s) (told_in e.tag)) 0 w (omega arith)
arrives-work x e (body.Control control) w = by_ack control.ack
  where
    by_ack : (b : Bool) → work (if b then answers_host x e.packet w else operates x control w) ≤ work w + (if b then 0 else top_of w.tree + 3)
    by_ack true = let less = work-answers x e.packet w in omega (arith, less)
    by_ack false =
        let banks = slots_after w.banks (slot_at w.tree x control.dst_port) control in
        let reply = answer (own_epid w.tree x) (place_at w x control.dst_port) control in
        let made = work-pends x (message back_vc control.src (body.Control reply)) (record w { banks = banks }) in
        let light = ap (λ (b : Bool). if b then 0 else top_of w.tree + 3) (answers-are_acks (own_epid w.tree x) (place_at w x control.dst_port) control) in
        by_sums _ (work (record w { banks = banks })) (work w) (top_of w.tree) (if reply.ack then 0 else top_of w.tree + 3) made (work-banks w banks) light
      where
        by_sums : (new mid old top b : ℕ) → new ≤ mid + (top + 2 + b) → mid ≡ old → b ≡ 0 → new ≤ old + (top + 3)
        by_sums new mid old top b le same light = omega arith
arrives-work x e (body.Management m) w = let less = work-answers x e.packet w in omega (arith, less)

-- ---- what a packet is where it goes on

-- where a packet with this body goes on it brings about no more, and what returns leaves room for an answer
abbrev Lightens : ℕ → ℕ → Outcome → Type 0
Lightens top old (Passes d p) = burden_of top p ≤ old
Lightens top old (Returns p) = burden_of top p + (top + 3) ≤ old
Lightens top old Arrives = Unit {0}
Lightens top old Ends = Unit {0}

over-lightens : (top old : ℕ) (p : Packet) (o : Option ℕ) → burden_of top p ≤ old → Lightens top old (option_map_or (λ (d : ℕ). Passes d p) o Ends)
over-lightens top old p None le = tt
over-lightens top old p (Some d) le = le

goes-lightens : (top old : ℕ) (tree : Plan) (nodes : List Node) (d : ℕ) (p : Packet) → burden_of top p ≤ old → Lightens top old (goes_on tree nodes d p).outcome
goes-lightens top old tree nodes d p le = by_sort (is_switch tree (end_of tree.links d))
  where
    by_sort : (b : Bool) → Lightens top old (if b then by_table tree nodes d p else Arrives)
    by_sort true = over-lightens top old p (sent_on tree (exits_of nodes) p.dst d) le
    by_sort false = tt

-- a packet without its first hop
fewer-hops : (m : Management) (last : List MgmtOp) (n : ℕ) → length m.hops ≡ n + 1 → length (without_first m last).hops ≡ n
fewer-hops m last n is =
    let kept = length-set (drop 1 m.hops) (length m.hops - 2) last in let dropped = length-drop 1 m.hops in omega (arith, kept, dropped)

at-most : (b : Bool) (n : ℕ) → (if b then n else 0) ≤ n
at-most true n = omega arith
at-most false n = omega arith

leaves-lightens : (top old : ℕ) (tree : Plan) (x : ℕ) (p : Packet) (m : Management) (exit : Done) → (if p.dst.0 == 0 then length m.hops * (top + 3) else 0) + (top + 3) ≤ old → length m.hops * (top + 3) + (top + 3) ≤ old →
    Lightens top old (leaves_by tree x p m exit)
leaves-lightens top old tree x p m (Forward port) le most = over-lightens top old (walking p m) (link_at tree.links x port) (omega arith)
leaves-lightens top old tree x p m Return le most = let less = at-most (m.src.0 == 0) (length m.hops * (top + 3)) in omega (arith, less)
leaves-lightens top old tree x p m (NoSuchPort port) le most = let less = at-most (m.src.0 == 0) (length m.hops * (top + 3)) in omega (arith, less)
leaves-lightens top old tree x p m Dead le most = tt

passing-lightens : (top : ℕ) (tree : Plan) (nodes : List Node) (d : ℕ) (p : Packet) (b : Body) → p.body ≡ b → Lightens top (burden_by top p b) (passing_by tree nodes d p b).outcome
passing-lightens top tree nodes d p (body.Samples time payload) is = goes-lightens top _ tree nodes d p (let same = ap (burden_by top p) is in omega (arith, same))
passing-lightens top tree nodes d p (body.Status status) is = goes-lightens top _ tree nodes d p (let same = ap (burden_by top p) is in omega (arith, same))
passing-lightens top tree nodes d p (body.Command c) is = goes-lightens top _ tree nodes d p (let same = ap (burden_by top p) is in omega (arith, same))
passing-lightens top tree nodes d p (body.Control control) is = goes-lightens top _ tree nodes d p (let same = ap (burden_by top p) is in omega (arith, same))
passing-lightens top tree nodes d p (body.Management m) is = by_epid (p.dst.0 == 0) (nat_lt (length m.hops) 2) refl refl
  where
    walks : (last : List MgmtOp) (exit : Done) (n : ℕ) → length m.hops ≡ n + 1 → (p.dst.0 == 0) ≡ true →
        Lightens top (length m.hops * (top + 3)) (leaves_by tree (end_of tree.links d) p (without_first m last) exit)
    walks last exit n many here =
        let less : length (without_first m last).hops * (top + 3) ≡ n * (top + 3) = ap (λ (k : ℕ). k * (top + 3)) (fewer-hops m last n many) in
        let all : length m.hops * (top + 3) ≡ (n + 1) * (top + 3) = ap (λ (k : ℕ). k * (top + 3)) many in
        let most = at-most (p.dst.0 == 0) (length (without_first m last).hops * (top + 3)) in
        leaves-lightens top (length m.hops * (top + 3)) tree (end_of tree.links d) p (without_first m last) exit (omega (arith, less, all, most)) (omega (arith, less, all))

    by_epid : (b c : Bool) → (p.dst.0 == 0) ≡ b → nat_lt (length m.hops) 2 ≡ c → Lightens top (if b then length m.hops * (top + 3) else 0) (if b
        then (if c then record { outcome = Ends; nodes = nodes } else walked_by tree nodes d p m)
        else goes_on tree nodes d p).outcome
    by_epid true true here few = tt
    by_epid true false here many = walks _ _ (length m.hops - 1) (let more = ltb-false (length m.hops) 2 many in omega (arith, more)) here
    by_epid false c here few = goes-lightens top 0 tree nodes d p
        (let same = ap (burden_by top p) is in let none = ap (λ (b : Bool). if b then length m.hops * (top + 3) else 0) here in omega (arith, same, none))

-- ---- the nodes that a packet leaves

table-weighs : (w : State) (x : ℕ) (table : List Place) → work (record w { nodes = with_table w.nodes x table }) ≤ work w
unfolding work
table-weighs w x table =
    let more = places-more (λ (k : ℕ) n. node_weight (top_of w.tree) n) blank w.nodes x (record (node_in w.nodes x) { table = table }) 0 (omega arith) in
    sums (queue_work w) (node_work (record w { nodes = with_table w.nodes x table })) (node_work w) (stream_work w) more
  where
    sums : (queues new old streams : ℕ) → new ≤ old + 0 → queues + new + streams ≤ queues + old + streams
    sums queues new old streams le = omega arith

passed-weighs : (tree : Plan) (d : ℕ) (p : Packet) (b : Body) (w : State) → work (record w { nodes = (passing_by tree w.nodes d p b).nodes }) ≤ work w
passed-weighs tree d p (body.Samples time payload) w = omega arith
passed-weighs tree d p (body.Status status) w = omega arith
passed-weighs tree d p (body.Command c) w = omega arith
passed-weighs tree d p (body.Control control) w = omega arith
passed-weighs tree d p (body.Management m) w = by_epid (p.dst.0 == 0) (nat_lt (length m.hops) 2)
  where
    by_epid : (b c : Bool) → work (record w {
      nodes = (if b
          then (if c then record { outcome = Ends; nodes = w.nodes } else walked_by tree w.nodes d p m)
          else goes_on tree w.nodes d p).nodes;
    }) ≤ work w
    by_epid true true = omega arith
    by_epid true false = table-weighs w (end_of tree.links d) _
    by_epid false c = omega arith

-- ---- a Hop

-- what becomes of a packet that leaves queue q weighs less than its entry did
passes-work : (x q : ℕ) (e : Entry) (o : Outcome) (w : State) → link_of_queue q < 2 * length w.tree.links → IsTree w.tree → Follows w.tree (link_of_queue q) o →
    Lightens (top_of w.tree) (burden_of (top_of w.tree) e.packet) o → work (passes x (channel_of q) e o w) < work w + entry_weight w.tree q e
passes-work x q e (Passes d p) w there has follows light =
    let joined = work-joins (queue_of d (channel_of q)) (record e { packet = p }) w in
    let link : link_of_queue (queue_of d (channel_of q)) ≡ d = queues.link d (channel_of q) (omega arith) in
    let rank : rank_of w.tree (link_of_queue (queue_of d (channel_of q))) ≡ rank_of w.tree d = ap (rank_of w.tree) link in
    let falls = ranks_fall w.tree has (link_of_queue q) d there follows in
    sums _ (work w) _ (rank_of w.tree d) (rank_of w.tree (link_of_queue q)) (burden_of (top_of w.tree) p) (burden_of (top_of w.tree) e.packet) joined rank falls light
  where
    sums : (new old r s t a b : ℕ) → new ≤ old + (r + 1 + a) → r ≡ s → s < t → a ≤ b → new < old + (t + 1 + b)
    sums new old r s t a b le is lt light = omega arith
passes-work x q e (Returns p) w there has follows light =
    sums _ (work w) (top_of w.tree) (rank_of w.tree (link_of_queue q)) (burden_of (top_of w.tree) p) (burden_of (top_of w.tree) e.packet) (work-pends x p w) light
  where
    sums : (new old top t a b : ℕ) → new ≤ old + (top + 2 + a) → a + (top + 3) ≤ b → new < old + (t + 1 + b)
    sums new old top t a b le light = omega arith
passes-work x q e Arrives w there has follows light =
    sums _ (work w) (rank_of w.tree (link_of_queue q)) (burden_of (top_of w.tree) e.packet) (arrives-work x e e.packet.body w)
  where
    sums : (new old t b : ℕ) → new ≤ old + b → new < old + (t + 1 + b)
    sums new old t b le = omega arith
passes-work x q e Ends w there has follows light =
    sums (work w) (rank_of w.tree (link_of_queue q)) (burden_of (top_of w.tree) e.packet)
  where
    sums : (old t b : ℕ) → old < old + (t + 1 + b)
    sums old t b = omega arith

pub hop-work : (w : State) (q : ℕ) (e : Entry) (rest : List Entry) → HasQueues w → queue_at w.queues q ≡ e ∷ rest → work (hops q (e ∷ rest) w) < work w
hop-work w q e rest has is =
    let there : link_of_queue q < 2 * length w.tree.links = queues.of w.tree q (subst (λ n. q < n) has.queues (queue-there w.queues q e rest is)) in
    let passed = passing w.tree w.nodes (link_of_queue q) e.packet in
    let left = work-leaves q e rest w is in
    let nodes = passed-weighs w.tree (link_of_queue q) e.packet e.packet.body (leaves q rest w) in
    let light = passing-lightens (top_of w.tree) w.tree w.nodes (link_of_queue q) e.packet e.packet.body refl in
    let goes = passes-work (end_of w.tree.links (link_of_queue q)) q e passed.outcome (record (leaves q rest w) { nodes = passed.nodes }) there
    has.tree (outcomes_follow w.tree has.tree w.nodes (link_of_queue q) there e.packet) light in
    sums _ _ _ (work w) (entry_weight w.tree q e) goes nodes left
  where
    sums : (new passed left old m : ℕ) → new < passed + m → passed ≤ left → left + m ≤ old → new < old
    sums new passed left old m goes nodes le = omega arith
