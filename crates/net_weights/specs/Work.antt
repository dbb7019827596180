-- The work that is left for what is under way: what an event makes new weighs less than what it uses up, as long as it
-- neither sends, nor gives a command, nor loses.
use Rattle.std.specs.Prelude.{ℕ, ◌+◌, ◌-◌, ◌*◌, ◌==◌, List, [], length, if◌then◌else◌}
use Rattle.std.specs.List.{sum_by}
use Rattle.chdr_packets.specs.declared.packet.Body.{Body}
use Rattle.chdr_packets.specs.declared.packet.Body.TheVariants as body
use Rattle.chdr_packets.specs.declared.packet.Packet.{Packet}
use Rattle.net_topology.specs.Ranks.{rank_of}
use Rattle.net_topology.specs.declared.plan.Plan.{Plan}
use Rattle.stream_endpoint.specs.Receiver.{is_due}
use Rattle.net_machine.specs.Queues.{link_of_queue}
use Rattle.net_machine.specs.State.{Entry, Node, State, Stream, blank, idle}
use Rattle.net_weights.specs.Sums.{sum_places}

-- no link has a greater rank
abbrev pub top_of : Plan → ℕ
top_of tree = length tree.nodes

-- What a packet brings about where it comes to: samples that aren't taken, a status that is due, an answer. A management
-- packet for no EPID may bring about one at each of its hops.
abbrev pub burden_by : ℕ → Packet → Body → ℕ
burden_by top p (body.Samples time payload) = top + 3
burden_by top p (body.Command c) = top + 3
burden_by top p (body.Status status) = 0
burden_by top p (body.Control control) = if control.ack then 0 else top + 3
burden_by top p (body.Management m) = if p.dst.0 == 0 then length m.hops * (top + 3) else 0

abbrev pub burden_of : ℕ → Packet → ℕ
burden_of top p = burden_by top p p.body

-- an entry of queue q has its link and those behind it to go
abbrev pub entry_weight : Plan → ℕ → Entry → ℕ
entry_weight tree q e = rank_of tree (link_of_queue q) + 1 + burden_of (top_of tree) e.packet

abbrev pub queue_weight : Plan → ℕ → List Entry → ℕ
queue_weight tree q entries = sum_by (entry_weight tree q) entries

-- a packet that waits at a node to enter a queue
abbrev pub waiting_weight : ℕ → Packet → ℕ
waiting_weight top p = top + 2 + burden_of top p

abbrev pub node_weight : ℕ → Node → ℕ
node_weight top n = sum_by (waiting_weight top) n.pending + sum_by (waiting_weight top) n.requests

-- a status that is due, and the packets that aren't taken
abbrev pub stream_weight : ℕ → Stream → ℕ
stream_weight top st =
    (if is_due st.receiver then top + 2 else 0) + (length st.given - st.taken) * (top + 3)

-- the work in queues, at nodes and at streams
abbrev pub queue_work : State → ℕ
queue_work w = sum_places (queue_weight w.tree) [] w.queues

abbrev pub node_work : State → ℕ
node_work w = sum_places (λ x n. node_weight (top_of w.tree) n) blank w.nodes

abbrev pub stream_work : State → ℕ
stream_work w = sum_places (λ s st. stream_weight (top_of w.tree) st) idle w.streams

unfoldable pub work : State → ℕ
work w = queue_work w + node_work w + stream_work w
