-- No move changes the tree, the plan, or how many queues, nodes and streams there are.
use Rattle.std.proofs.Common.{◌≡◌, ℕ, ◌+◌, Bool, true, false, List, [], ◌∷◌, ◌++◌, length, drop, refl, ◌∙◌, if◌then◌else◌}
use Rattle.std.specs.Prelude.{Option, Some, None, slice_get, nat_lt, ◌==◌}
use Rattle.std.specs.Option.{option_map_or}
use Rattle.std.proofs.lemmas.List.{length-set}
use Rattle.block_library.specs.Memory.{gives}
use Rattle.chdr_packets.specs.declared.packet.Body.{Body}
use Rattle.chdr_packets.specs.declared.packet.Body.TheVariants as body
use Rattle.chdr_packets.specs.declared.packet.Packet.{Packet}
use Rattle.net_topology.specs.Links.{end_of}
use Rattle.net_topology.specs.declared.plan.Plan.{Plan}
use Rattle.net_machine.specs.declared.event.Event.{Event}
use Rattle.net_machine.specs.declared.event.Event.TheVariants.{Enter, Hop, Seen, Feed, Report, Command, Lose, Reply, Ask}
use Rattle.net_machine.specs.declared.plan.BlockPlan.{BlockPlan}
use Rattle.net_machine.specs.Blocks.{kept_at}
use Rattle.net_machine.specs.Effects.{after, answers_host, arrives, asks_first, enters, enters_over, feeds, feeds_from, gives_out, hears_status, hops, joins, leaves, loses_front, on_any_stream, on_node, on_stream, operates, passes, pends, replies_first, stream_of}
use Rattle.net_machine.specs.Moves.{Happens, Asks, Answered, Marks, Loads, after_all, after_move}
use Rattle.net_machine.specs.Nodes.{is_host_at, own_epid, route_from}
use Rattle.net_machine.specs.Passing.{Outcome, Passes, Returns, Arrives, Ends, goes_on, passing, passing_by, walked_by}
use Rattle.net_machine.specs.Plans.{block_at, plan_at, stream_from, stream_into, stream_out_of, stream_to}
use Rattle.net_machine.specs.Queues.{channel_of, link_of_queue, queue_of}
use Rattle.net_machine.specs.State.{Entry, Node, State, Stream, Tag, node_at, queue_at, stream_at}
use Rattle.net_machine.specs.Streams.{counts_in, gets, gets_order, gets_status, loses, readies, sends_first, sends_order, sends_status, taken_to, told_in}
use Rattle.net_machine.specs.Laws.{KeepsShape, ShapeStays, ShapesStay}

self : (w : State) → KeepsShape w w
self w = record { tree = refl; plan = refl; queues = refl; nodes = refl; streams = refl }

twice : (w v u : State) → KeepsShape w v → KeepsShape v u → KeepsShape w u
twice w v u first second = record {
  tree = second.tree ∙ first.tree;
  plan = second.plan ∙ first.plan;
  queues = second.queues ∙ first.queues;
  nodes = second.nodes ∙ first.nodes;
  streams = second.streams ∙ first.streams;
}

of-stream : (s : ℕ) (next : Stream → Stream) (w : State) → KeepsShape w (on_stream s next w)
of-stream s next w =
    record { tree = refl; plan = refl; queues = refl; nodes = refl; streams = length-set w.streams s (next (stream_at w s)) }

of-any : (o : Option ℕ) (next : Stream → Stream) (w : State) → KeepsShape w (on_any_stream o next w)
of-any None next w = self w
of-any (Some s) next w = of-stream s next w

of-node : (x : ℕ) (next : Node → Node) (w : State) → KeepsShape w (on_node x next w)
of-node x next w =
    record { tree = refl; plan = refl; queues = refl; nodes = length-set w.nodes x (next (node_at w x)); streams = refl }

of-joins : (q : ℕ) (e : Entry) (w : State) → KeepsShape w (joins q e w)
of-joins q e w =
    record { tree = refl; plan = refl; queues = length-set w.queues q (queue_at w.queues q ++ e ∷ []); nodes = refl; streams = refl }

of-leaves : (q : ℕ) (rest : List Entry) (w : State) → KeepsShape w (leaves q rest w)
of-leaves q rest w = record { tree = refl; plan = refl; queues = length-set w.queues q rest; nodes = refl; streams = refl }

of-over : (o : Option ℕ) (vc : ℕ) (marked : Bool) (p : Packet) (tag : Tag) (w : State) → KeepsShape w (enters_over o vc marked p tag w)
of-over None vc marked p tag w = self w
of-over (Some d) vc marked p tag w = of-joins (queue_of d vc) (record { packet = p; marked = marked; tag = tag }) w

-- an entry of stream s enters, and the stream changes
of-sent : (s : ℕ) (next : Stream → Stream) (o : Option ℕ) (vc : ℕ) (marked : Bool) (p : Packet) (tag : Tag) (w : State) →
    KeepsShape w (on_stream s next (enters_over o vc marked p tag w))
of-sent s next o vc marked p tag w =
    twice w (enters_over o vc marked p tag w) (on_stream s next (enters_over o vc marked p tag w))
    (of-over o vc marked p tag w) (of-stream s next (enters_over o vc marked p tag w))

-- a packet of node x enters, and the node changes
of-left : (x : ℕ) (next : Node → Node) (o : Option ℕ) (vc : ℕ) (marked : Bool) (p : Packet) (tag : Tag) (w v : State) → KeepsShape w v →
    KeepsShape w (on_node x next (enters_over o vc marked p tag v))
of-left x next o vc marked p tag w v before =
    twice w v (on_node x next (enters_over o vc marked p tag v)) before
    (twice v (enters_over o vc marked p tag v) (on_node x next (enters_over o vc marked p tag v))
    (of-over o vc marked p tag v) (of-node x next (enters_over o vc marked p tag v)))

-- ---- at a node

of-pends : (x : ℕ) (p : Packet) (w : State) → KeepsShape w (pends x p w)
of-pends x p w = by_route (route_from w.tree w.nodes x p.dst)
  where
    by_route : (o : Option ℕ) → KeepsShape w (option_map_or (λ (d : ℕ). on_node x (λ (n : Node). record n { pending = n.pending ++ p ∷ [] }) w) o w)
    by_route None = self w
    by_route (Some d) = of-node x (λ (n : Node). record n { pending = n.pending ++ p ∷ [] }) w

of-answers : (x : ℕ) (p : Packet) (w : State) → KeepsShape w (answers_host x p w)
of-answers x p w = by_host (is_host_at w.tree x)
  where
    by_host : (b : Bool) → KeepsShape w (if b then on_node x (λ (n : Node). record n { answers = n.answers ++ p ∷ [] }) w else w)
    by_host true = of-node x (λ (n : Node). record n { answers = n.answers ++ p ∷ [] }) w
    by_host false = self w

of-heard : (o : Option ℕ) (tag : Tag) (w : State) → KeepsShape w (option_map_or (λ (s : ℕ). hears_status tag s w) o w)
of-heard None tag w = self w
of-heard (Some s) tag w = of-stream s (gets_status (plan_at w.plan s) (told_in tag)) w

of-arrives : (x : ℕ) (e : Entry) (b : Body) (w : State) → KeepsShape w (arrives x e b w)
of-arrives x e (body.Samples time payload) w = of-any (stream_to w.plan (own_epid w.tree x)) (gets e.packet) w
of-arrives x e (body.Command c) w = of-any (stream_to w.plan (own_epid w.tree x)) (gets_order c.op (counts_in e.tag)) w
of-arrives x e (body.Status status) w = of-heard (stream_from w.plan (own_epid w.tree x)) e.tag w
of-arrives x e (body.Control control) w = by_ack control.ack
  where
    by_ack : (b : Bool) → KeepsShape w (if b then answers_host x e.packet w else operates x control w)
    by_ack true = of-answers x e.packet w
    by_ack false =
        twice w (record w { banks = _ }) (operates x control w)
        (record { tree = refl; plan = refl; queues = refl; nodes = refl; streams = refl }) (of-pends x _ (record w { banks = _ }))
of-arrives x e (body.Management m) w = of-answers x e.packet w

of-passes : (x vc : ℕ) (e : Entry) (o : Outcome) (w : State) → KeepsShape w (passes x vc e o w)
of-passes x vc e (Passes d p) w = of-joins (queue_of d vc) (record e { packet = p }) w
of-passes x vc e (Returns p) w = of-pends x p w
of-passes x vc e Arrives w = of-arrives x e e.packet.body w
of-passes x vc e Ends w = self w

-- the nodes that a packet leaves are as many
nodes-by : (tree : Plan) (nodes : List Node) (d : ℕ) (p : Packet) (b : Body) → length (passing_by tree nodes d p b).nodes ≡ length nodes
nodes-by tree nodes d p (body.Samples time payload) = refl
nodes-by tree nodes d p (body.Status status) = refl
nodes-by tree nodes d p (body.Command c) = refl
nodes-by tree nodes d p (body.Control control) = refl
nodes-by tree nodes d p (body.Management m) = by_epid (p.dst.0 == 0) (nat_lt (length m.hops) 2)
  where
    by_epid : (b c : Bool) → length (if b
        then (if c then record { outcome = Ends; nodes = nodes } else walked_by tree nodes d p m)
        else goes_on tree nodes d p).nodes ≡ length nodes
    by_epid true true = refl
    by_epid true false = length-set nodes (end_of tree.links d) _
    by_epid false c = refl

of-hops : (q : ℕ) (entries : List Entry) (w : State) → KeepsShape w (hops q entries w)
of-hops q [] w = self w
of-hops q (e ∷ rest) w =
    let passed = passing w.tree w.nodes (link_of_queue q) e.packet in
    let left = record (leaves q rest w) { nodes = passed.nodes } in
    twice w left (passes (end_of w.tree.links (link_of_queue q)) (channel_of q) e passed.outcome left)
    (record {
      tree = refl;
      plan = refl;
      queues = length-set w.queues q rest;
      nodes = nodes-by w.tree w.nodes (link_of_queue q) e.packet e.packet.body;
      streams = refl;
    })
    (of-passes (end_of w.tree.links (link_of_queue q)) (channel_of q) e passed.outcome left)

-- ---- the other events

of-enters : (s : ℕ) (packets : List Packet) (w : State) → KeepsShape w (enters s packets w)
of-enters s [] w = self w
of-enters s (p ∷ rest) w = of-sent s (sends_first (plan_at w.plan s) p rest) _ _ _ _ _ w

of-feeds : (block : BlockPlan) (i : ℕ) (w : State) → KeepsShape w (feeds block i w)
of-feeds block i w = by_stream (stream_into w.plan block i)
  where
    by_packet : (s : ℕ) (o : Option Packet) → KeepsShape w (option_map_or (λ (p : Packet). gives_out block (gives (kept_at w block) i p) (on_stream s (taken_to ((stream_at w s).taken + 1)) w)) o w)
    by_packet s None = self w
    by_packet s (Some p) =
        let fed = on_stream s (taken_to ((stream_at w s).taken + 1)) w in
        let given = gives (kept_at w block) i p in
        let first = on_any_stream (stream_out_of w.plan block 0) (readies given.first) fed in
        twice w fed (gives_out block given fed) (of-stream s (taken_to ((stream_at w s).taken + 1)) w)
        (twice fed first (gives_out block given fed) (of-any (stream_out_of w.plan block 0) (readies given.first) fed)
        (of-any (stream_out_of w.plan block 1) (readies given.second) first))

    by_stream : (o : Option ℕ) → KeepsShape w (option_map_or (λ (s : ℕ). feeds_from block i s w) o w)
    by_stream None = self w
    by_stream (Some s) = by_packet s (slice_get (stream_at w s).given (stream_at w s).taken)

of-asks : (x : ℕ) (packets : List Packet) (w : State) → KeepsShape w (asks_first x packets w)
of-asks x [] w = self w
of-asks x (p ∷ rest) w =
    of-left x (λ (n : Node). record n { requests = rest }) _ _ _ _ _ w (record w { requests = w.requests + 1 }) (record { tree = refl; plan = refl; queues = refl; nodes = refl; streams = refl })

of-replies : (x : ℕ) (packets : List Packet) (w : State) → KeepsShape w (replies_first x packets w)
of-replies x [] w = self w
of-replies x (p ∷ rest) w =
    of-left x (λ (n : Node). record n { pending = rest }) _ _ _ _ _ w (record w { answers = w.answers + 1 }) (record { tree = refl; plan = refl; queues = refl; nodes = refl; streams = refl })

of-loses : (q : ℕ) (entries : List Entry) (w : State) → KeepsShape w (loses_front q entries w)
of-loses q [] w = self w
of-loses q (e ∷ rest) w =
    twice w (leaves q rest w) (on_any_stream (stream_of w e.packet e.packet.body) (loses e) (leaves q rest w))
    (of-leaves q rest w) (of-any (stream_of w e.packet e.packet.body) (loses e) (leaves q rest w))

of-event : (w : State) (e : Event) → KeepsShape w (after w e)
unfolding after
of-event w (Enter s) = of-enters s (stream_at w s).ready w
of-event w (Command s op) = of-sent s (sends_order op) _ _ _ _ _ w
of-event w (Report s) = of-sent s sends_status _ _ _ _ _ w
of-event w (Seen s n) = of-stream s (taken_to n) w
of-event w (Feed b i) = of-feeds (block_at w.plan b) i w
of-event w (Ask x) = of-asks x (node_at w x).requests w
of-event w (Reply x) = of-replies x (node_at w x).pending w
of-event w (Lose q) = of-loses q (queue_at w.queues q) w
of-event w (Hop q) = of-hops q (queue_at w.queues q) w

-- ---- moves

pub shape-stays : ShapeStays
shape-stays w (Happens e) = of-event w e
shape-stays w (Asks x p) =
    record { tree = refl; plan = refl; queues = refl; nodes = length-set w.nodes x (record (node_at w x) { requests = (node_at w x).requests ++ p ∷ [] }); streams = refl }
shape-stays w (Answered x) = of-node x (λ (n : Node). record n { answers = drop 1 n.answers }) w
shape-stays w (Marks faults) = record { tree = refl; plan = refl; queues = refl; nodes = refl; streams = refl }
shape-stays w (Loads banks) = record { tree = refl; plan = refl; queues = refl; nodes = refl; streams = refl }

pub all-shapes : ShapesStay
unfolding after_all
all-shapes w [] = self w
all-shapes w (move ∷ moves) =
    twice w (after_move w move) (after_all (after_move w move) moves) (shape-stays w move) (all-shapes (after_move w move) moves)
