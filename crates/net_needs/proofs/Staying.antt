-- Each event keeps the sizes of a present.
use Rattle.std.proofs.Common.{◌≡◌, ℕ, ◌+◌, Bool, true, false, List, [], ◌∷◌, ◌++◌, length, set, get_or, refl, sym, subst, ◌∙◌, if◌then◌else◌}
use Rattle.std.specs.Prelude.{Option, Some, None, nat_lt, slice_get, ◌==◌}
use Rattle.std.specs.Option.{option_map_or}
use Rattle.std.proofs.lemmas.List.{length-set}
use Rattle.rf_base.proofs.Places.{one-set}
use Rattle.block_library.specs.Blocks.{Lists}
use Rattle.block_library.specs.Memory.{after_feed, gives}
use Rattle.chdr_packets.specs.declared.packet.Body.{Body}
use Rattle.chdr_packets.specs.declared.packet.Body.TheVariants as body
use Rattle.chdr_packets.specs.declared.packet.Packet.{Packet}
use Rattle.net_topology.specs.Links.{end_of, link_at}
use Rattle.net_topology.specs.declared.plan.Plan.{Plan}
use Rattle.net_machine.specs.declared.event.Event.TheVariants.{Enter, Hop, Seen, Feed, Report, Command, Lose, Reply, Ask}
use Rattle.net_machine.specs.declared.plan.BlockPlan.{BlockPlan}
use Rattle.net_machine.specs.Front.{Queued}
use Rattle.net_machine.specs.Nodes.{is_host_at, own_epid, route_from}
use Rattle.net_machine.specs.Passing.{Arrives, Ends, Outcome, Passes, Returns, goes_on, passing, passing_by, walked_by}
use Rattle.net_machine.specs.Plans.{block_at, first_link, plan_at, stream_from, stream_into, stream_out_of, stream_to}
use Rattle.net_machine.specs.Queues.{channel_of, link_of_queue, queue_of}
use Rattle.net_machine.specs.State.{Node, node_in}
use Rattle.net_present.specs.Kept.{block_now_at, idle_block, now_at}
use Rattle.net_present.specs.Onward.{Held, answers_host_now, arrives_now, asks_now, block_fed, enters_now, enters_over_now, entries_at, feeds_from_now, feeds_now, gives_out_now, hops_now, joins_now, leaves_now, loses_now, on_any_now, on_node_now, on_now, operates_now, orders_now, passes_now, pends_now, replies_now, reports_now}
use Rattle.net_present.specs.Onward as onward
use Rattle.net_present.specs.Present.{BlockNow, Present, StreamNow}
use Rattle.net_present.specs.StreamSteps.{fed_now, gets_now, gets_order_now, gets_status_now, readies_now, sends_first_now, sends_order_now, sends_status_now, taken_now}
use Rattle.net_needs.specs.Staying.{KeepsForm, KeepsSizes, SizesStay}

same : (p : Present) → KeepsSizes p p
same p = record { tree = refl; plan = refl; queues = refl; nodes = refl; streams = refl; blocks = refl; forms = λ b. record { kind = refl; item = refl } }

of-fed : (i : ℕ) (packet : Packet) (now : BlockNow) → KeepsForm now (block_fed i packet now)
unfolding after_feed
of-fed i packet now = record { kind = refl; item = refl }

-- a node passes packets on, and there are as many nodes
as-many : (tree : Plan) (nodes : List Node) (d : ℕ) (packet : Packet) (b : Body) → length (passing_by tree nodes d packet b).nodes ≡ length nodes
as-many tree nodes d packet (body.Samples time payload) = refl
as-many tree nodes d packet (body.Status status) = refl
as-many tree nodes d packet (body.Command c) = refl
as-many tree nodes d packet (body.Control control) = refl
as-many tree nodes d packet (body.Management m) = by_epid (packet.dst.0 == 0) (nat_lt (length m.hops) 2)
  where
    by_epid : (b c : Bool) → length (if b
        then (if c then record { outcome = Ends; nodes = nodes } else walked_by tree nodes d packet m)
        else goes_on tree nodes d packet).nodes ≡ length nodes
    by_epid true true = refl
    by_epid true false = length-set nodes _ _
    by_epid false c = refl

-- each block has its form, once one of them was written
form-set : (old blocks : List BlockNow) (b : ℕ) (new : BlockNow) → KeepsForm (block_now_at old b) new
    → ((c : ℕ) → KeepsForm (block_now_at old c) (block_now_at blocks c)) → (c : ℕ) → KeepsForm (block_now_at old c) (block_now_at (set blocks b new) c)
form-set old blocks b new here each c =
    one-set (λ k (now : BlockNow) (was : BlockNow). k ≡ c → KeepsForm was now) blocks old (idle_block c) (idle_block c) new b
    (λ k e. subst (λ n. KeepsForm (get_or old n (idle_block c)) (get_or blocks n (idle_block c))) (sym e) (each c))
    (λ e. subst (λ n. KeepsForm (get_or old b (idle_block n)) new) e here) c refl

module _ (a : Present) where
  of-now : (s : ℕ) (next : StreamNow → StreamNow) (p : Present) → KeepsSizes a p → KeepsSizes a (on_now s next p)
  of-now s next p k = record { tree = k.tree; plan = k.plan; queues = k.queues; nodes = k.nodes; streams = length-set p.streams s (next (now_at p.streams s)) ∙ k.streams; blocks = k.blocks; forms = k.forms }

  of-any : (o : Option ℕ) (next : StreamNow → StreamNow) (p : Present) → KeepsSizes a p → KeepsSizes a (on_any_now o next p)
  of-any None next p k = k
  of-any (Some s) next p k = of-now s next p k

  of-node : (x : ℕ) (next : Node → Node) (p : Present) → KeepsSizes a p → KeepsSizes a (on_node_now x next p)
  of-node x next p k = record { tree = k.tree; plan = k.plan; queues = k.queues; nodes = length-set p.nodes x (next (node_in p.nodes x)) ∙ k.nodes; streams = k.streams; blocks = k.blocks; forms = k.forms }

  of-queue : (q : ℕ) (entries : List Queued) (p : Present) → KeepsSizes a p → KeepsSizes a (leaves_now q entries p)
  of-queue q entries p k = record { tree = k.tree; plan = k.plan; queues = length-set p.queues q entries ∙ k.queues; nodes = k.nodes; streams = k.streams; blocks = k.blocks; forms = k.forms }

  of-over : (o : Option ℕ) (vc : ℕ) (marked : Bool) (packet : Packet) (p : Present) → KeepsSizes a p → KeepsSizes a (enters_over_now o vc marked packet p)
  of-over None vc marked packet p k = k
  of-over (Some d) vc marked packet p k = of-queue (queue_of d vc) _ p k

  of-enters : (s : ℕ) (packets : List Packet) (p : Present) → KeepsSizes a p → KeepsSizes a (enters_now s packets p)
  of-enters s [] p k = k
  of-enters s (packet ∷ rest) p k = of-now s (sends_first_now packet rest) _ (of-over (first_link p.tree (plan_at p.plan s).from) _ _ _ p k)

  of-fed-block : (b i s : ℕ) (packet : Packet) (p : Present) → KeepsSizes a p →
      KeepsSizes a (record (on_now s fed_now p) { blocks = set p.blocks b (block_fed i packet (block_now_at p.blocks b)) })
  of-fed-block b i s packet p k = record {
    tree = k.tree;
    plan = k.plan;
    queues = k.queues;
    nodes = k.nodes;
    streams = length-set p.streams s (fed_now (now_at p.streams s)) ∙ k.streams;
    blocks = length-set p.blocks b (block_fed i packet (block_now_at p.blocks b)) ∙ k.blocks;
    forms = form-set a.blocks p.blocks b (block_fed i packet (block_now_at p.blocks b)) (further (block_now_at a.blocks b) (k.forms b)) k.forms;
  }
    where
      further : (old : BlockNow) → KeepsForm old (block_now_at p.blocks b) → KeepsForm old (block_fed i packet (block_now_at p.blocks b))
      further old f = let g = of-fed i packet (block_now_at p.blocks b) in record { kind = g.kind ∙ f.kind; item = g.item ∙ f.item }

  of-gives : (block : BlockPlan) (given : Lists) (p : Present) → KeepsSizes a p → KeepsSizes a (gives_out_now block given p)
  of-gives block given p k =
      of-any (stream_out_of p.plan block 1) (readies_now given.second) _ (of-any (stream_out_of p.plan block 0) (readies_now given.first) p k)

  of-feeds : (b i s : ℕ) (o : Option Packet) (p : Present) → KeepsSizes a p → KeepsSizes a (option_map_or
      (λ packet. gives_out_now (block_at p.plan b) (gives (block_now_at p.blocks b).kept i packet)
      (record (on_now s fed_now p) { blocks = set p.blocks b (block_fed i packet (block_now_at p.blocks b)) })) o p)
  of-feeds b i s None p k = k
  of-feeds b i s (Some packet) p k = of-gives (block_at p.plan b) _ _ (of-fed-block b i s packet p k)

  of-feeding : (b i : ℕ) (o : Option ℕ) (p : Present) → KeepsSizes a p → KeepsSizes a (option_map_or (λ s. feeds_from_now b i s p) o p)
  of-feeding b i None p k = k
  of-feeding b i (Some s) p k = of-feeds b i s (slice_get (now_at p.streams s).waiting 0) p k

  of-pends : (x : ℕ) (packet : Packet) (p : Present) → KeepsSizes a p → KeepsSizes a (pends_now x packet p)
  of-pends x packet p k = by_route (route_from p.tree p.nodes x packet.dst)
    where
      by_route : (o : Option ℕ) → KeepsSizes a (option_map_or (λ (d : ℕ). on_node_now x (λ (n : Node). record n { pending = n.pending ++ packet ∷ [] }) p) o p)
      by_route None = k
      by_route (Some d) = of-node x (λ (n : Node). record n { pending = n.pending ++ packet ∷ [] }) p k

  of-answers : (x : ℕ) (packet : Packet) (p : Present) → KeepsSizes a p → KeepsSizes a (answers_host_now x packet p)
  of-answers x packet p k = by_host (is_host_at p.tree x)
    where
      by_host : (b : Bool) → KeepsSizes a (if b then on_node_now x (λ (n : Node). record n { answers = n.answers ++ packet ∷ [] }) p else p)
      by_host true = of-node x (λ (n : Node). record n { answers = n.answers ++ packet ∷ [] }) p k
      by_host false = k

  of-arrives : (x : ℕ) (packet : Packet) (b : Body) (h : Held) → KeepsSizes a h.present → KeepsSizes a (arrives_now x packet b h).present
  of-arrives x packet (body.Samples time payload) h k = of-any (stream_to h.present.plan (own_epid h.present.tree x)) (gets_now packet) h.present k
  of-arrives x packet (body.Command c) h k = of-any (stream_to h.present.plan (own_epid h.present.tree x)) (gets_order_now c) h.present k
  of-arrives x packet (body.Status status) h k = by_stream (stream_from h.present.plan (own_epid h.present.tree x))
    where
      by_stream : (o : Option ℕ) → KeepsSizes a (option_map_or (λ s. on_now s (gets_status_now (plan_at h.present.plan s) status) h.present) o h.present)
      by_stream None = k
      by_stream (Some s) = of-now s (gets_status_now (plan_at h.present.plan s) status) h.present k
  of-arrives x packet (body.Control control) h k = by_ack control.ack
    where
      by_ack : (b : Bool) → KeepsSizes a (if b then onward.on_present (answers_host_now x packet) h else operates_now x control h).present
      by_ack true = of-answers x packet h.present k
      by_ack false = of-pends x _ h.present k
  of-arrives x packet (body.Management m) h k = of-answers x packet h.present k

  of-passes : (x vc : ℕ) (e : Queued) (o : Outcome) (h : Held) → KeepsSizes a h.present → KeepsSizes a (passes_now x vc e o h).present
  of-passes x vc e (Passes d packet) h k = of-queue (queue_of d vc) _ h.present k
  of-passes x vc e (Returns packet) h k = of-pends x packet h.present k
  of-passes x vc e Arrives h k = of-arrives x e.packet e.packet.body h k
  of-passes x vc e Ends h k = k

  of-hops : (q : ℕ) (entries : List Queued) (h : Held) → KeepsSizes a h.present → KeepsSizes a (hops_now q entries h).present
  of-hops q [] h k = k
  of-hops q (e ∷ rest) h k =
      let passed = passing h.present.tree h.present.nodes (link_of_queue q) e.packet in
      of-passes (end_of h.present.tree.links (link_of_queue q)) (channel_of q) e passed.outcome
      (onward.on_present (λ (p : Present). record (leaves_now q rest p) { nodes = passed.nodes }) h)
      (record { tree = k.tree; plan = k.plan; queues = length-set h.present.queues q rest ∙ k.queues; nodes = as-many h.present.tree h.present.nodes (link_of_queue q) e.packet e.packet.body ∙ k.nodes; streams = k.streams; blocks = k.blocks; forms = k.forms })

  of-loses : (q : ℕ) (entries : List Queued) (p : Present) → KeepsSizes a p → KeepsSizes a (loses_now q entries p)
  of-loses q [] p k = k
  of-loses q (e ∷ rest) p k = of-queue q rest p k

  of-asks : (x : ℕ) (packets : List Packet) (p : Present) → KeepsSizes a p → KeepsSizes a (asks_now x packets p)
  of-asks x [] p k = k
  of-asks x (packet ∷ rest) p k =
      of-node x (λ (n : Node). record n { requests = rest }) _ (of-over (link_at p.tree.links x 0) _ _ packet (record p { requests = p.requests + 1 }) (record { tree = k.tree; plan = k.plan; queues = k.queues; nodes = k.nodes; streams = k.streams; blocks = k.blocks; forms = k.forms }))

  of-replies : (x : ℕ) (packets : List Packet) (p : Present) → KeepsSizes a p → KeepsSizes a (replies_now x packets p)
  of-replies x [] p k = k
  of-replies x (packet ∷ rest) p k =
      of-node x (λ (n : Node). record n { pending = rest }) _ (of-over (route_from p.tree p.nodes x packet.dst) _ _ packet (record p { answers = p.answers + 1 }) (record { tree = k.tree; plan = k.plan; queues = k.queues; nodes = k.nodes; streams = k.streams; blocks = k.blocks; forms = k.forms }))

pub sizes-stay : SizesStay
unfolding onward.goes_on
sizes-stay (Enter s) h = of-enters h.present s (now_at h.present.streams s).ready h.present (same h.present)
sizes-stay (Command s op) h = of-now h.present s (sends_order_now op) _ (of-over h.present (first_link h.present.tree (plan_at h.present.plan s).from) _ _ _ h.present (same h.present))
sizes-stay (Report s) h = of-now h.present s sends_status_now _ (of-over h.present (first_link h.present.tree (plan_at h.present.plan s).to) _ _ _ h.present (same h.present))
sizes-stay (Seen s n) h = of-now h.present s (taken_now n) h.present (same h.present)
sizes-stay (Feed b i) h = of-feeding h.present b i (stream_into h.present.plan (block_at h.present.plan b) i) h.present (same h.present)
sizes-stay (Ask x) h = of-asks h.present x (node_in h.present.nodes x).requests h.present (same h.present)
sizes-stay (Reply x) h = of-replies h.present x (node_in h.present.nodes x).pending h.present (same h.present)
sizes-stay (Lose q) h = of-loses h.present q (entries_at h.present.queues q) h.present (same h.present)
sizes-stay (Hop q) h = of-hops h.present q (entries_at h.present.queues q) h (same h.present)
