-- Each event raises the counts of a present by one at most.
use Rattle.std.proofs.Common.{ℕ, ◌+◌, ◌≤◌, Bool, true, false, List, [], ◌∷◌, ◌++◌, set, arith, if◌then◌else◌}
use Rattle.std.specs.Prelude.{Option, Some, None, slice_get}
use Rattle.std.specs.Option.{option_map_or}
use Rattle.rf_base.proofs.Places.{one-set}
use Rattle.block_library.specs.Blocks.{Lists}
use Rattle.block_library.specs.Memory.{gives}
use Rattle.chdr_packets.specs.declared.packet.Body.{Body}
use Rattle.chdr_packets.specs.declared.packet.Body.TheVariants as body
use Rattle.chdr_packets.specs.declared.packet.Packet.{Packet}
use Rattle.chdr_words.specs.declared.command.CmdOp.{CmdOp}
use Rattle.chdr_words.specs.declared.command.CmdOp.TheVariants.{Init, Ping, Resync, Other}
use Rattle.chdr_words.specs.declared.command.Command.{Command as Order}
use Rattle.stream_endpoint.specs.Receiver.{arrival, expected}
use Rattle.stream_endpoint.specs.declared.state.Arrived.{Arrived}
use Rattle.stream_endpoint.specs.declared.state.Arrived.TheVariants.{Kept, Discarded, Gap}
use Rattle.net_topology.specs.Links.{end_of, link_at}
use Rattle.net_machine.specs.declared.event.Event.TheVariants.{Enter, Hop, Seen, Feed, Report, Command, Lose, Reply, Ask}
use Rattle.net_machine.specs.declared.plan.BlockPlan.{BlockPlan}
use Rattle.net_machine.specs.Front.{Queued}
use Rattle.net_machine.specs.Nodes.{is_host_at, own_epid, route_from}
use Rattle.net_machine.specs.Passing.{Arrives, Ends, Outcome, Passes, Returns, passing}
use Rattle.net_machine.specs.Plans.{block_at, first_link, plan_at, stream_from, stream_into, stream_out_of, stream_to}
use Rattle.net_machine.specs.Queues.{channel_of, link_of_queue, queue_of}
use Rattle.net_machine.specs.State.{Node, node_in}
use Rattle.net_present.specs.Kept.{block_now_at, idle_now, now_at}
use Rattle.net_present.specs.Onward.{Held, answers_host_now, arrives_now, asks_now, block_fed, enters_now, enters_over_now, entries_at, feeds_from_now, gives_out_now, goes_on, hops_now, leaves_now, loses_now, on_any_now, on_node_now, on_now, on_present, operates_now, passes_now, pends_now, replies_now}
use Rattle.net_present.specs.Present.{Present, StreamNow}
use Rattle.net_present.specs.StreamSteps.{cuts_by, fed_now, gets_now, gets_order_now, gets_status_now, if_kept, readies_now, sends_first_now, sends_order_now, sends_status_now, taken_now}
use Rattle.net_needs.specs.Staying.{CountsRise, IsCounted, IsStreamCounted}

stream-more : (n : ℕ) (st : StreamNow) → IsStreamCounted n st → IsStreamCounted (n + 1) st
stream-more n st c = omega (arith, c.sent, c.given, c.statuses, c.commands, c.cuts)

-- ---- what a stream does

of-first : (n : ℕ) (packet : Packet) (rest : List Packet) (st : StreamNow) → IsStreamCounted n st → IsStreamCounted (n + 1) (sends_first_now packet rest st)
of-first n packet rest st c = omega (arith, c.sent, c.given, c.statuses, c.commands, c.cuts)

of-order : (n : ℕ) (op : CmdOp) (st : StreamNow) → IsStreamCounted n st → IsStreamCounted (n + 1) (sends_order_now op st)
of-order n op st c = omega (arith, c.sent, c.given, c.statuses, c.commands, c.cuts)

of-status : (n : ℕ) (st : StreamNow) → IsStreamCounted n st → IsStreamCounted (n + 1) (sends_status_now st)
of-status n st c = omega (arith, c.sent, c.given, c.statuses, c.commands, c.cuts)

if-more : (n k : ℕ) (a : Arrived) → k ≤ n → if_kept a (k + 1) k ≤ n + 1
if-more n k Kept le = omega (arith, le)
if-more n k (Gap wanted got) le = omega (arith, le)
if-more n k Discarded le = omega (arith, le)

of-gets : (n : ℕ) (packet : Packet) (st : StreamNow) → IsStreamCounted n st → IsStreamCounted (n + 1) (gets_now packet st)
of-gets n packet st c =
    let m = stream-more n st c in
    record {
      sent = m.sent;
      given = if-more n st.given (arrival st.receiver.broken (expected st.receiver) packet.seq) c.given;
      statuses = m.statuses;
      commands = m.commands;
      cuts = m.cuts;
    }

cuts-more : (n k : ℕ) (op : CmdOp) → k ≤ n → cuts_by op k ≤ n + 1
cuts-more n k Init le = omega (arith, le)
cuts-more n k Ping le = omega (arith, le)
cuts-more n k Resync le = omega (arith, le)
cuts-more n k (Other code) le = omega (arith, le)

of-obeyed : (n : ℕ) (c : Order) (st : StreamNow) → IsStreamCounted n st → IsStreamCounted (n + 1) (gets_order_now c st)
of-obeyed n order st c =
    let m = stream-more n st c in
    record { sent = m.sent; given = m.given; statuses = m.statuses; commands = m.commands; cuts = cuts-more n st.cuts order.op c.cuts }

-- ---- what a present does

module _ (n : ℕ) where
  more : (p : Present) → IsCounted n p → IsCounted (n + 1) p
  more p c = record {
    streams = λ s. stream-more n (now_at p.streams s) (c.streams s);
    requests = let few = c.requests in omega (arith, few);
    answers = let few = c.answers in omega (arith, few);
  }

  of-now : (s : ℕ) (next : StreamNow → StreamNow) (p : Present) → IsCounted n p → IsStreamCounted n (next (now_at p.streams s)) → IsCounted n (on_now s next p)
  of-now s next p c here = record {
    streams = one-set {B = ℕ} (λ t st none. IsStreamCounted n st) p.streams [] idle_now 0 (next (now_at p.streams s)) s c.streams here;
    requests = c.requests;
    answers = c.answers;
  }

  of-queue : (q : ℕ) (entries : List Queued) (p : Present) → IsCounted n p → IsCounted n (leaves_now q entries p)
  of-queue q entries p c = record { streams = c.streams; requests = c.requests; answers = c.answers }

  of-node : (x : ℕ) (next : Node → Node) (p : Present) → IsCounted n p → IsCounted n (on_node_now x next p)
  of-node x next p c = record { streams = c.streams; requests = c.requests; answers = c.answers }

  of-over : (o : Option ℕ) (vc : ℕ) (marked : Bool) (packet : Packet) (p : Present) → IsCounted n p → IsCounted n (enters_over_now o vc marked packet p)
  of-over None vc marked packet p c = c
  of-over (Some d) vc marked packet p c = of-queue (queue_of d vc) _ p c

  of-readies : (o : Option ℕ) (packets : List Packet) (p : Present) → IsCounted n p → IsCounted n (on_any_now o (readies_now packets) p)
  of-readies None packets p c = c
  of-readies (Some s) packets p c = let st = c.streams s in
      of-now s (readies_now packets) p c (record { sent = st.sent; given = st.given; statuses = st.statuses; commands = st.commands; cuts = st.cuts })

  of-gives : (block : BlockPlan) (given : Lists) (p : Present) → IsCounted n p → IsCounted n (gives_out_now block given p)
  of-gives block given p c =
      of-readies (stream_out_of p.plan block 1) given.second _ (of-readies (stream_out_of p.plan block 0) given.first p c)

  of-fed : (b i s : ℕ) (packet : Packet) (p : Present) → IsCounted n p →
      IsCounted n (record (on_now s fed_now p) { blocks = set p.blocks b (block_fed i packet (block_now_at p.blocks b)) })
  of-fed b i s packet p c = let st = c.streams s in
      let fed = of-now s fed_now p c (record { sent = st.sent; given = st.given; statuses = st.statuses; commands = st.commands; cuts = st.cuts }) in
      record { streams = fed.streams; requests = fed.requests; answers = fed.answers }

  of-feeds : (b i s : ℕ) (o : Option Packet) (p : Present) → IsCounted n p → IsCounted n (option_map_or
      (λ packet. gives_out_now (block_at p.plan b) (gives (block_now_at p.blocks b).kept i packet)
      (record (on_now s fed_now p) { blocks = set p.blocks b (block_fed i packet (block_now_at p.blocks b)) })) o p)
  of-feeds b i s None p c = c
  of-feeds b i s (Some packet) p c = of-gives (block_at p.plan b) _ _ (of-fed b i s packet p c)

  of-feeding : (b i : ℕ) (o : Option ℕ) (p : Present) → IsCounted n p → IsCounted n (option_map_or (λ s. feeds_from_now b i s p) o p)
  of-feeding b i None p c = c
  of-feeding b i (Some s) p c = of-feeds b i s (slice_get (now_at p.streams s).waiting 0) p c

  of-pends : (x : ℕ) (packet : Packet) (p : Present) → IsCounted n p → IsCounted n (pends_now x packet p)
  of-pends x packet p c = by_route (route_from p.tree p.nodes x packet.dst)
    where
      by_route : (o : Option ℕ) → IsCounted n (option_map_or (λ (d : ℕ). on_node_now x (λ (m : Node). record m { pending = m.pending ++ packet ∷ [] }) p) o p)
      by_route None = c
      by_route (Some d) = of-node x (λ (m : Node). record m { pending = m.pending ++ packet ∷ [] }) p c

  of-answers : (x : ℕ) (packet : Packet) (p : Present) → IsCounted n p → IsCounted n (answers_host_now x packet p)
  of-answers x packet p c = by_host (is_host_at p.tree x)
    where
      by_host : (b : Bool) → IsCounted n (if b then on_node_now x (λ (m : Node). record m { answers = m.answers ++ packet ∷ [] }) p else p)
      by_host true = of-node x (λ (m : Node). record m { answers = m.answers ++ packet ∷ [] }) p c
      by_host false = c

  of-loses : (q : ℕ) (entries : List Queued) (p : Present) → IsCounted n p → IsCounted n (loses_now q entries p)
  of-loses q [] p c = c
  of-loses q (e ∷ rest) p c = of-queue q rest p c

-- stream s raises a count by one
raises : (n s : ℕ) (next : StreamNow → StreamNow) (p : Present) → IsCounted n p → ((st : StreamNow) → IsStreamCounted n st → IsStreamCounted (n + 1) (next st)) →
    IsCounted (n + 1) (on_now s next p)
raises n s next p c each = of-now (n + 1) s next p (more n p c) (each (now_at p.streams s) (c.streams s))

any-raises : (n : ℕ) (o : Option ℕ) (next : StreamNow → StreamNow) (p : Present) → IsCounted n p → ((st : StreamNow) → IsStreamCounted n st → IsStreamCounted (n + 1) (next st)) →
    IsCounted (n + 1) (on_any_now o next p)
any-raises n None next p c each = more n p c
any-raises n (Some s) next p c each = raises n s next p c each

of-enters : (n s : ℕ) (packets : List Packet) (p : Present) → IsCounted n p → IsCounted (n + 1) (enters_now s packets p)
of-enters n s [] p c = more n p c
of-enters n s (packet ∷ rest) p c =
    raises n s (sends_first_now packet rest) _ (of-over n (first_link p.tree (plan_at p.plan s).from) _ _ _ p c) (of-first n packet rest)

of-arrives : (n x : ℕ) (packet : Packet) (b : Body) (h : Held) → IsCounted n h.present → IsCounted (n + 1) (arrives_now x packet b h).present
of-arrives n x packet (body.Samples time payload) h c = any-raises n (stream_to h.present.plan (own_epid h.present.tree x)) (gets_now packet) h.present c (of-gets n packet)
of-arrives n x packet (body.Command order) h c = any-raises n (stream_to h.present.plan (own_epid h.present.tree x)) (gets_order_now order) h.present c (of-obeyed n order)
of-arrives n x packet (body.Status status) h c = by_stream (stream_from h.present.plan (own_epid h.present.tree x))
  where
    by_stream : (o : Option ℕ) → IsCounted (n + 1) (option_map_or (λ s. on_now s (gets_status_now (plan_at h.present.plan s) status) h.present) o h.present)
    by_stream None = more n h.present c
    by_stream (Some s) = raises n s (gets_status_now (plan_at h.present.plan s) status) h.present c (λ st k. let m = stream-more n st k in
        record { sent = m.sent; given = m.given; statuses = m.statuses; commands = m.commands; cuts = m.cuts })
of-arrives n x packet (body.Control control) h c = by_ack control.ack
  where
    by_ack : (b : Bool) → IsCounted (n + 1) (if b then on_present (answers_host_now x packet) h else operates_now x control h).present
    by_ack true = more n _ (of-answers n x packet h.present c)
    by_ack false = more n _ (of-pends n x _ h.present c)
of-arrives n x packet (body.Management m) h c = more n _ (of-answers n x packet h.present c)

of-passes : (n x vc : ℕ) (e : Queued) (o : Outcome) (h : Held) → IsCounted n h.present → IsCounted (n + 1) (passes_now x vc e o h).present
of-passes n x vc e (Passes d packet) h c = more n _ (of-queue n (queue_of d vc) _ h.present c)
of-passes n x vc e (Returns packet) h c = more n _ (of-pends n x packet h.present c)
of-passes n x vc e Arrives h c = of-arrives n x e.packet e.packet.body h c
of-passes n x vc e Ends h c = more n h.present c

of-hops : (n q : ℕ) (entries : List Queued) (h : Held) → IsCounted n h.present → IsCounted (n + 1) (hops_now q entries h).present
of-hops n q [] h c = more n h.present c
of-hops n q (e ∷ rest) h c =
    let passed = passing h.present.tree h.present.nodes (link_of_queue q) e.packet in
    of-passes n (end_of h.present.tree.links (link_of_queue q)) (channel_of q) e passed.outcome
    (on_present (λ (p : Present). record (leaves_now q rest p) { nodes = passed.nodes }) h)
    (record { streams = c.streams; requests = c.requests; answers = c.answers })

of-asks : (n x : ℕ) (packets : List Packet) (p : Present) → IsCounted n p → IsCounted (n + 1) (asks_now x packets p)
of-asks n x [] p c = more n p c
of-asks n x (packet ∷ rest) p c =
    let m = more n p c in
    let few = c.requests in
    of-node (n + 1) x (λ (m : Node). record m { requests = rest }) _ (of-over (n + 1) (link_at p.tree.links x 0) _ _ packet (record p { requests = p.requests + 1 })
    (record { streams = m.streams; requests = omega (arith, few); answers = m.answers }))

of-replies : (n x : ℕ) (packets : List Packet) (p : Present) → IsCounted n p → IsCounted (n + 1) (replies_now x packets p)
of-replies n x [] p c = more n p c
of-replies n x (packet ∷ rest) p c =
    let m = more n p c in
    let few = c.answers in
    of-node (n + 1) x (λ (m : Node). record m { pending = rest }) _ (of-over (n + 1) (route_from p.tree p.nodes x packet.dst) _ _ packet (record p { answers = p.answers + 1 })
    (record { streams = m.streams; requests = m.requests; answers = omega (arith, few) }))

pub counts-rise : CountsRise
unfolding goes_on
counts-rise n (Enter s) h c = of-enters n s (now_at h.present.streams s).ready h.present c
counts-rise n (Command s op) h c = raises n s (sends_order_now op) _ (of-over n (first_link h.present.tree (plan_at h.present.plan s).from) _ _ _ h.present c) (of-order n op)
counts-rise n (Report s) h c = raises n s sends_status_now _ (of-over n (first_link h.present.tree (plan_at h.present.plan s).to) _ _ _ h.present c) (of-status n)
counts-rise n (Seen s k) h c = raises n s (taken_now k) h.present c (λ st d. let m = stream-more n st d in
    record { sent = m.sent; given = m.given; statuses = m.statuses; commands = m.commands; cuts = m.cuts })
counts-rise n (Feed b i) h c = more n _ (of-feeding n b i (stream_into h.present.plan (block_at h.present.plan b) i) h.present c)
counts-rise n (Ask x) h c = of-asks n x (node_in h.present.nodes x).requests h.present c
counts-rise n (Reply x) h c = of-replies n x (node_in h.present.nodes x).pending h.present c
counts-rise n (Lose q) h c = more n _ (of-loses n q (entries_at h.present.queues q) h.present c)
counts-rise n (Hop q) h c = of-hops n q (entries_at h.present.queues q) h c
