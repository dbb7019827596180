-- What each event does.
use Rattle.std.specs.Prelude.{ℕ, ◌+◌, Bool, List, [], ◌∷◌, ◌++◌, length, Option, None, Some, slice_get, slice_set, if◌then◌else◌}
use Rattle.std.specs.Option.{option_map_or}
use Rattle.block_library.specs.Blocks.{Lists}
use Rattle.block_library.specs.Memory.{gives}
use Rattle.block_registers.specs.Operations.{answer}
use Rattle.block_registers.specs.Slots.{slots_after}
use Rattle.chdr_packets.specs.declared.packet.Body.{Body}
use Rattle.chdr_packets.specs.declared.packet.Body.TheVariants as body
use Rattle.chdr_packets.specs.declared.packet.Packet.{Packet}
use Rattle.chdr_words.specs.declared.command.CmdOp.{CmdOp}
use Rattle.chdr_words.specs.declared.control.Control.{Control}
use Rattle.net_topology.specs.Links.{end_of, link_at}
use Rattle.stream_endpoint.specs.InEnd.{status_of}
use Rattle.stream_endpoint.specs.OutEnd.{command_of}
use Rattle.net_faults.specs.declared.fault.Fault.TheVariants as fault
use Rattle.stream_endpoint.specs.Epochs.{told_by, ordered_by}
use Rattle.net_machine.specs.declared.event.Event.{Event}
use Rattle.net_machine.specs.declared.event.Event.TheVariants as event
use Rattle.net_machine.specs.declared.plan.BlockPlan.{BlockPlan}
use Rattle.net_machine.specs.Blocks.{kept_at}
use Rattle.net_machine.specs.Faults.{is_named}
use Rattle.net_machine.specs.Nodes.{is_host_at, own_epid, place_at, route_from, slot_at}
use Rattle.net_machine.specs.Passing.{Outcome, Passes, Returns, Arrives, Ends, message, passing}
use Rattle.net_machine.specs.Plans.{block_at, first_link, plan_at, stream_from, stream_into, stream_out_of, stream_to}
use Rattle.net_machine.specs.Queues.{back_vc, channel_of, forward_vc, link_of_queue, queue_of}
use Rattle.net_machine.specs.State.{Entry, Node, State, Stream, Tag, Sample, Order, Report, Message, node_at, queue_at, stream_at}
use Rattle.net_machine.specs.Streams.{counts_in, entering, gets, gets_order, gets_status, loses, readies, receiving_of, sending_of, sends_first, sends_order, sends_status, taken_to, told_in}

-- stream s changes
abbrev pub on_stream : ℕ → (Stream → Stream) → State → State
on_stream s next w = record w { streams = slice_set w.streams s (next (stream_at w s)) }

-- a stream changes, if there is one
abbrev pub on_any_stream : Option ℕ → (Stream → Stream) → State → State
on_any_stream None next w = w
on_any_stream (Some s) next w = on_stream s next w

-- node x changes
abbrev pub on_node : ℕ → (Node → Node) → State → State
on_node x next w = record w { nodes = slice_set w.nodes x (next (node_at w x)) }

-- an entry joins queue q
abbrev pub joins : ℕ → Entry → State → State
joins q e w = record w { queues = slice_set w.queues q (queue_at w.queues q ++ e ∷ []) }

-- the front entry leaves queue q, and the rest stays
abbrev pub leaves : ℕ → List Entry → State → State
leaves q rest w = record w { queues = slice_set w.queues q rest }

-- a packet enters its first queue, that of a directed link and a channel
abbrev pub enters_over : Option ℕ → ℕ → Bool → Packet → Tag → State → State
enters_over None vc marked p tag w = w
enters_over (Some d) vc marked p tag w =
    joins (queue_of d vc) (record { packet = p; marked = marked; tag = tag }) w

-- the first ready packet of stream s is sent
abbrev pub enters : ℕ → List Packet → State → State
enters s [] w = w
enters s (p ∷ rest) w = let plan = plan_at w.plan s in let st = stream_at w s in
    let place = length st.sent in
    on_stream s (sends_first plan p rest)
    (enters_over (first_link w.tree plan.from) forward_vc (is_named w.faults (fault.Samples s place))
    (entering plan st.sender p) (Sample place) w)

-- the sender of stream s sends a command
abbrev pub orders : ℕ → CmdOp → State → State
orders s op w = let plan = plan_at w.plan s in let st = stream_at w s in
    on_stream s (sends_order op)
    (enters_over (first_link w.tree plan.from) forward_vc (is_named w.faults (fault.Command s st.commands))
    (message forward_vc plan.to (body.Command (command_of op (sending_of plan st))))
    (Order (ordered_by plan.flow st.sender op)) w)

-- the receiver of stream s sends the status that is due
abbrev pub reports : ℕ → State → State
reports s w = let plan = plan_at w.plan s in let st = stream_at w s in
    on_stream s sends_status
    (enters_over (first_link w.tree plan.to) back_vc (is_named w.faults (fault.Status s st.statuses))
    (message back_vc plan.from (body.Status (status_of (receiving_of plan st))))
    (Report (told_by st.receiver)) w)

-- what a block gives becomes ready on the streams that begin at its outputs
abbrev pub gives_out : BlockPlan → Lists → State → State
gives_out block given w =
    on_any_stream (stream_out_of w.plan block 1) (readies given.second)
    (on_any_stream (stream_out_of w.plan block 0) (readies given.first) w)

-- the first packet of stream s that isn't taken is fed to input i of a block
abbrev pub feeds_from : BlockPlan → ℕ → ℕ → State → State
feeds_from block i s w = let st = stream_at w s in
    option_map_or (λ p. gives_out block (gives (kept_at w block) i p) (on_stream s (taken_to (st.taken + 1)) w))
    (slice_get st.given st.taken) w

-- so it is with the stream that ends at the input
abbrev pub feeds : BlockPlan → ℕ → State → State
feeds block i w = option_map_or (λ s. feeds_from block i s w) (stream_into w.plan block i) w

-- a packet becomes a pending answer of node x, and ends at once where no link leads on
abbrev pub pends : ℕ → Packet → State → State
pends x p w =
    option_map_or (λ d. on_node x (λ n. record n { pending = n.pending ++ p ∷ [] }) w) (route_from w.tree w.nodes x p.dst) w

-- an acknowledgement or a returned packet comes to node x, where only a host expects it
abbrev pub answers_host : ℕ → Packet → State → State
answers_host x p w =
    if is_host_at w.tree x then on_node x (λ n. record n { answers = n.answers ++ p ∷ [] }) w else w

-- a control request is operated at node x, and its acknowledgement is to leave
abbrev pub operates : ℕ → Control → State → State
operates x request w =
    pends x (message back_vc request.src (body.Control (answer (own_epid w.tree x) (place_at w x request.dst_port) request)))
    (record w { banks = slots_after w.banks (slot_at w.tree x request.dst_port) request })

-- a status of stream s comes to its sender
abbrev pub hears_status : Tag → ℕ → State → State
hears_status tag s w = on_stream s (gets_status (plan_at w.plan s) (told_in tag)) w

-- an entry came to end node x
abbrev pub arrives : ℕ → Entry → Body → State → State
arrives x e (body.Samples time payload) w =
    on_any_stream (stream_to w.plan (own_epid w.tree x)) (gets e.packet) w
arrives x e (body.Command c) w =
    on_any_stream (stream_to w.plan (own_epid w.tree x)) (gets_order c.op (counts_in e.tag)) w
arrives x e (body.Status status) w =
    option_map_or (λ s. hears_status e.tag s w) (stream_from w.plan (own_epid w.tree x)) w
arrives x e (body.Control control) w =
    if control.ack then answers_host x e.packet w else operates x control w
arrives x e (body.Management m) w = answers_host x e.packet w

-- what becomes of an entry at node x that left a queue of this channel
abbrev pub passes : ℕ → ℕ → Entry → Outcome → State → State
passes x vc e (Passes d p) w = joins (queue_of d vc) (record e { packet = p }) w
passes x vc e (Returns p) w = pends x p w
passes x vc e Arrives w = arrives x e e.packet.body w
passes x vc e Ends w = w

-- the front entry of queue q moves one node on
abbrev pub hops : ℕ → List Entry → State → State
hops q [] w = w
hops q (e ∷ rest) w = let passed = passing w.tree w.nodes (link_of_queue q) e.packet in
    passes (end_of w.tree.links (link_of_queue q)) (channel_of q) e passed.outcome
    (record (leaves q rest w) { nodes = passed.nodes })

-- the stream of a packet
abbrev pub stream_of : State → Packet → Body → Option ℕ
stream_of w p (body.Samples time payload) = stream_to w.plan p.dst
stream_of w p (body.Command c) = stream_to w.plan p.dst
stream_of w p (body.Status status) = stream_from w.plan p.dst
stream_of w p (body.Control control) = None
stream_of w p (body.Management m) = None

-- the front entry of queue q is lost
abbrev pub loses_front : ℕ → List Entry → State → State
loses_front q [] w = w
loses_front q (e ∷ rest) w = on_any_stream (stream_of w e.packet e.packet.body) (loses e) (leaves q rest w)

-- the first request of host x enters
abbrev pub asks_first : ℕ → List Packet → State → State
asks_first x [] w = w
asks_first x (p ∷ rest) w = on_node x (λ n. record n { requests = rest })
    (enters_over (link_at w.tree.links x 0) forward_vc (is_named w.faults (fault.Request w.requests)) p Message
    (record w { requests = w.requests + 1 }))

-- the first pending answer of node x enters
abbrev pub replies_first : ℕ → List Packet → State → State
replies_first x [] w = w
replies_first x (p ∷ rest) w = on_node x (λ n. record n { pending = rest })
    (enters_over (route_from w.tree w.nodes x p.dst) back_vc (is_named w.faults (fault.Answer w.answers)) p Message
    (record w { answers = w.answers + 1 }))

-- what an event does
unfoldable pub after : State → Event → State
after w (event.Enter s) = enters s (stream_at w s).ready w
after w (event.Command s op) = orders s op w
after w (event.Report s) = reports s w
after w (event.Seen s n) = on_stream s (taken_to n) w
after w (event.Feed b i) = feeds (block_at w.plan b) i w
after w (event.Ask x) = asks_first x (node_at w x).requests w
after w (event.Reply x) = replies_first x (node_at w x).pending w
after w (event.Lose q) = loses_front q (queue_at w.queues q) w
after w (event.Hop q) = hops q (queue_at w.queues q) w
