-- How a present goes on, with the registers that its net is lent.
use Rattle.std.specs.Prelude.{ℕ, ◌+◌, ◌==◌, Bool, List, [], ◌∷◌, ◌++◌, Option, None, Some, is_some, slice_get, slice_index_or, slice_set, if◌then◌else◌}
use Rattle.std.specs.Option.{option_map_or}
use Rattle.block_library.specs.Blocks.{Lists}
use Rattle.block_library.specs.Lines.{line_with}
use Rattle.block_library.specs.Memory.{after_feed, block_registers, gives}
use Rattle.block_library.specs.declared.kind.BlockKind.{BlockKind}
use Rattle.block_library.specs.declared.kind.BlockKind.TheVariants.{Tx, Rx, Fifo, Split, Keep, Repeat, Replay, Switch, Sink}
use Rattle.block_library.specs.declared.line.Line.{Line}
use Rattle.block_registers.specs.Operations.{Place as Port, Nowhere, Fixed, answer}
use Rattle.block_registers.specs.Registers.{Registers}
use Rattle.block_registers.specs.Slots.{place_of, slots_after}
use Rattle.chdr_packets.specs.declared.packet.Body.{Body}
use Rattle.chdr_packets.specs.declared.packet.Body.TheVariants as body
use Rattle.chdr_packets.specs.declared.packet.Packet.{Packet}
use Rattle.chdr_words.specs.declared.command.CmdOp.{CmdOp}
use Rattle.chdr_words.specs.declared.control.Control.{Control}
use Rattle.chdr_words.specs.declared.epid.Epid.{Epid}
use Rattle.net_topology.specs.Links.{end_of, link_at}
use Rattle.net_topology.specs.declared.plan.NodePlan.{NodePlan}
use Rattle.net_topology.specs.declared.plan.NodePlan.TheVariants.{Crossbar, Adapter, Host, Endpoint}
use Rattle.stream_endpoint.specs.InEnd.{status_of}
use Rattle.stream_endpoint.specs.OutEnd.{command_of}
use Rattle.stream_endpoint.specs.Sender.{next_number}
use Rattle.net_faults.specs.declared.fault.Fault.TheVariants as fault
use Rattle.net_machine.specs.declared.event.Event.{Event}
use Rattle.net_machine.specs.declared.event.Event.TheVariants as event
use Rattle.net_machine.specs.declared.plan.BlockPlan.{BlockPlan}
use Rattle.net_machine.specs.Conditions.{may}
use Rattle.net_machine.specs.Faults.{is_named}
use Rattle.net_machine.specs.Front.{Queued}
use Rattle.net_machine.specs.Nodes.{block_port, is_host_at, own_epid, planned, route_from, slot_at}
use Rattle.net_machine.specs.Passing.{Outcome, Passes, Returns, Arrives, Ends, message, passing}
use Rattle.net_machine.specs.Plans.{block_at, block_in, block_out, first_link, plan_at, stream_from, stream_into, stream_out_of, stream_to}
use Rattle.net_machine.specs.Queues.{back_vc, channel_of, forward_vc, link_of_queue, queue_of}
use Rattle.net_machine.specs.State.{Node, node_in}
use Rattle.net_machine.specs.Streams.{numbered}
use Rattle.net_present.specs.Kept.{block_now_at, now_at}
use Rattle.net_present.specs.Present.{BlockNow, Present, StreamNow, front_now}
use Rattle.net_present.specs.StreamSteps.{fed_now, gets_now, gets_order_now, gets_status_now, readies_now, receiving_now, sending_now, sends_first_now, sends_order_now, sends_status_now, taken_now}

-- a present beside the registers in the slots, which the caller of a net holds
pub record Held : Type 0 where
  pub present : Present
  pub banks : List (Option Registers)

-- the entries of queue q
abbrev pub entries_at : List (List Queued) → ℕ → List Queued
entries_at queues q = slice_index_or queues q []

-- the present changes, and the registers stay
abbrev pub on_present : (Present → Present) → Held → Held
on_present next h = record h { present = next h.present }

-- stream s changes
abbrev pub on_now : ℕ → (StreamNow → StreamNow) → Present → Present
on_now s next p = record p { streams = slice_set p.streams s (next (now_at p.streams s)) }

-- a stream changes, if there is one
abbrev pub on_any_now : Option ℕ → (StreamNow → StreamNow) → Present → Present
on_any_now None next p = p
on_any_now (Some s) next p = on_now s next p

-- node x changes
abbrev pub on_node_now : ℕ → (Node → Node) → Present → Present
on_node_now x next p = record p { nodes = slice_set p.nodes x (next (node_in p.nodes x)) }

-- an entry joins queue q
abbrev pub joins_now : ℕ → Queued → Present → Present
joins_now q e p = record p { queues = slice_set p.queues q (entries_at p.queues q ++ e ∷ []) }

-- the front entry leaves queue q, and the rest stays
abbrev pub leaves_now : ℕ → List Queued → Present → Present
leaves_now q rest p = record p { queues = slice_set p.queues q rest }

-- a packet enters its first queue, that of a directed link and a channel
abbrev pub enters_over_now : Option ℕ → ℕ → Bool → Packet → Present → Present
enters_over_now None vc marked packet p = p
enters_over_now (Some d) vc marked packet p =
    joins_now (queue_of d vc) (record { packet = packet; marked = marked }) p

-- the first ready packet of stream s is sent
abbrev pub enters_now : ℕ → List Packet → Present → Present
enters_now s [] p = p
enters_now s (packet ∷ rest) p = let plan = plan_at p.plan s in let st = now_at p.streams s in
    on_now s (sends_first_now packet rest)
    (enters_over_now (first_link p.tree plan.from) forward_vc (is_named p.faults (fault.Samples s st.sent))
    (numbered plan (next_number st.sender) packet) p)

-- the sender of stream s sends a command
abbrev pub orders_now : ℕ → CmdOp → Present → Present
orders_now s op p = let plan = plan_at p.plan s in let st = now_at p.streams s in
    on_now s (sends_order_now op)
    (enters_over_now (first_link p.tree plan.from) forward_vc (is_named p.faults (fault.Command s st.commands))
    (message forward_vc plan.to (body.Command (command_of op (sending_now plan st)))) p)

-- the receiver of stream s sends the status that is due
abbrev pub reports_now : ℕ → Present → Present
reports_now s p = let plan = plan_at p.plan s in let st = now_at p.streams s in
    on_now s sends_status_now
    (enters_over_now (first_link p.tree plan.to) back_vc (is_named p.faults (fault.Status s st.statuses))
    (message back_vc plan.from (body.Status (status_of (receiving_now plan st)))) p)

-- what a block gives becomes ready on the streams that begin at its outputs
abbrev pub gives_out_now : BlockPlan → Lists → Present → Present
gives_out_now block given p =
    on_any_now (stream_out_of p.plan block 1) (readies_now given.second)
    (on_any_now (stream_out_of p.plan block 0) (readies_now given.first) p)

-- the line of a block with one packet more, kept for a sink alone
abbrev pub line_after : BlockKind → ℕ → Line → Packet → Line
line_after Tx item line packet = line
line_after Rx item line packet = line
line_after Fifo item line packet = line
line_after Split item line packet = line
line_after (Keep n) item line packet = line
line_after (Repeat n) item line packet = line
line_after (Replay n) item line packet = line
line_after (Switch n) item line packet = line
line_after Sink item line packet = line_with item line packet

-- what is kept of a block, once a packet is fed to input i
abbrev pub block_fed : ℕ → Packet → BlockNow → BlockNow
block_fed i packet now = record {
  kept = after_feed now.kept i packet;
  line = line_after now.kept.kind now.kept.item now.line packet;
}

-- the first waiting packet of stream s is fed to input i of block b
abbrev pub feeds_from_now : ℕ → ℕ → ℕ → Present → Present
feeds_from_now b i s p = let now = block_now_at p.blocks b in option_map_or
    (λ packet. gives_out_now (block_at p.plan b) (gives now.kept i packet)
    (record (on_now s fed_now p) { blocks = slice_set p.blocks b (block_fed i packet now) }))
    (slice_get (now_at p.streams s).waiting 0) p

-- so it is with the stream that ends at the input
abbrev pub feeds_now : ℕ → ℕ → Present → Present
feeds_now b i p = option_map_or (λ s. feeds_from_now b i s p) (stream_into p.plan (block_at p.plan b) i) p

-- a packet becomes a pending answer of node x, and ends at once where no link leads on
abbrev pub pends_now : ℕ → Packet → Present → Present
pends_now x packet p = option_map_or
    (λ d. on_node_now x (λ n. record n { pending = n.pending ++ packet ∷ [] }) p) (route_from p.tree p.nodes x packet.dst) p

-- an acknowledgement or a returned packet comes to node x, where only a host expects it
abbrev pub answers_host_now : ℕ → Packet → Present → Present
answers_host_now x packet p =
    if is_host_at p.tree x then on_node_now x (λ n. record n { answers = n.answers ++ packet ∷ [] }) p else p

-- the block with an input at an EPID, else the one with an output there
abbrev pub block_on_now : Present → Epid → Option ℕ
block_on_now p epid =
    if is_some (block_in p.plan epid) then block_in p.plan epid else block_out p.plan epid

-- what answers at the block's port
abbrev pub block_place_now : Present → Option ℕ → Port
block_place_now p None = Nowhere
block_place_now p (Some b) = Fixed (block_registers (block_now_at p.blocks b).kept)

-- what answers at a port of node x: an endpoint's block, its bank, or nothing; a host has nothing
abbrev pub place_by_now : Held → ℕ → ℕ → NodePlan → Port
place_by_now h x port (Crossbar ports) = Nowhere
place_by_now h x port Adapter = Nowhere
place_by_now h x port (Host epid) = Nowhere
place_by_now h x port (Endpoint epid bank) = if port == block_port
    then block_place_now h.present (block_on_now h.present epid)
    else place_of h.banks (slot_at h.present.tree x port)

-- of a node that might not be there
abbrev pub place_now : Held → ℕ → ℕ → Port
place_now h x port = option_map_or (place_by_now h x port) (planned h.present.tree x) Nowhere

-- a control request is operated at node x, and its acknowledgement is to leave
abbrev pub operates_now : ℕ → Control → Held → Held
operates_now x request h = record {
  present = pends_now x (message back_vc request.src (body.Control
      (answer (own_epid h.present.tree x) (place_now h x request.dst_port) request))) h.present;
  banks = slots_after h.banks (slot_at h.present.tree x request.dst_port) request;
}

-- a packet came to end node x
abbrev pub arrives_now : ℕ → Packet → Body → Held → Held
arrives_now x packet (body.Samples time payload) h =
    on_present (λ p. on_any_now (stream_to p.plan (own_epid p.tree x)) (gets_now packet) p) h
arrives_now x packet (body.Command c) h =
    on_present (λ p. on_any_now (stream_to p.plan (own_epid p.tree x)) (gets_order_now c) p) h
arrives_now x packet (body.Status status) h =
    on_present (λ p. option_map_or (λ s. on_now s (gets_status_now (plan_at p.plan s) status) p)
    (stream_from p.plan (own_epid p.tree x)) p) h
arrives_now x packet (body.Control control) h =
    if control.ack then on_present (answers_host_now x packet) h else operates_now x control h
arrives_now x packet (body.Management m) h = on_present (answers_host_now x packet) h

-- what becomes of an entry at node x that left a queue of this channel
abbrev pub passes_now : ℕ → ℕ → Queued → Outcome → Held → Held
passes_now x vc e (Passes d packet) h = on_present (joins_now (queue_of d vc) (record e { packet = packet })) h
passes_now x vc e (Returns packet) h = on_present (pends_now x packet) h
passes_now x vc e Arrives h = arrives_now x e.packet e.packet.body h
passes_now x vc e Ends h = h

-- the front entry of queue q moves one node on
abbrev pub hops_now : ℕ → List Queued → Held → Held
hops_now q [] h = h
hops_now q (e ∷ rest) h =
    let passed = passing h.present.tree h.present.nodes (link_of_queue q) e.packet in
    passes_now (end_of h.present.tree.links (link_of_queue q)) (channel_of q) e passed.outcome
    (on_present (λ p. record (leaves_now q rest p) { nodes = passed.nodes }) h)

-- the front entry of queue q is lost
abbrev pub loses_now : ℕ → List Queued → Present → Present
loses_now q [] p = p
loses_now q (e ∷ rest) p = leaves_now q rest p

-- the first request of host x enters
abbrev pub asks_now : ℕ → List Packet → Present → Present
asks_now x [] p = p
asks_now x (packet ∷ rest) p = on_node_now x (λ n. record n { requests = rest })
    (enters_over_now (link_at p.tree.links x 0) forward_vc (is_named p.faults (fault.Request p.requests)) packet
    (record p { requests = p.requests + 1 }))

-- the first pending answer of node x enters
abbrev pub replies_now : ℕ → List Packet → Present → Present
replies_now x [] p = p
replies_now x (packet ∷ rest) p = on_node_now x (λ n. record n { pending = rest })
    (enters_over_now (route_from p.tree p.nodes x packet.dst) back_vc (is_named p.faults (fault.Answer p.answers)) packet
    (record p { answers = p.answers + 1 }))

-- how a present and the registers go on at an event
unfoldable pub goes_on : Event → Held → Held
goes_on (event.Enter s) h = on_present (λ p. enters_now s (now_at p.streams s).ready p) h
goes_on (event.Command s op) h = on_present (orders_now s op) h
goes_on (event.Report s) h = on_present (reports_now s) h
goes_on (event.Seen s n) h = on_present (on_now s (taken_now n)) h
goes_on (event.Feed b i) h = on_present (feeds_now b i) h
goes_on (event.Ask x) h = on_present (λ p. asks_now x (node_in p.nodes x).requests p) h
goes_on (event.Reply x) h = on_present (λ p. replies_now x (node_in p.nodes x).pending p) h
goes_on (event.Lose q) h = on_present (λ p. loses_now q (entries_at p.queues q) p) h
goes_on (event.Hop q) h = hops_now q (entries_at h.present.queues q) h

-- an event is enabled, as far as the present tells
abbrev pub enabled_now : Present → Event → Bool
enabled_now p e = may (front_now p) e
