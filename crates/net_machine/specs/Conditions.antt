-- When each event is enabled.
use Rattle.std.specs.Prelude.{ℕ, ◌==◌, ◌&&◌, ◌||◌, not, nat_lt, nat_le, Bool, true, false, List, [], ◌∷◌, length, Option}
use Rattle.std.specs.List.{list_all}
use Rattle.std.specs.Option.{option_map_or}
use Rattle.chdr_packets.specs.Length.{wire_of}
use Rattle.chdr_packets.specs.declared.packet.Body.{Body}
use Rattle.chdr_packets.specs.declared.packet.Body.TheVariants as body
use Rattle.chdr_packets.specs.declared.packet.Packet.{Packet}
use Rattle.chdr_words.specs.declared.command.CmdOp.{CmdOp}
use Rattle.chdr_words.specs.declared.command.CmdOp.TheVariants.{Init, Ping, Resync, Other}
use Rattle.chdr_words.specs.declared.epid.Epid.{Epid}
use Rattle.net_topology.specs.Links.{link_at}
use Rattle.stream_endpoint.specs.Counts.{is_none}
use Rattle.stream_endpoint.specs.Flow.{has_room}
use Rattle.stream_endpoint.specs.Sender.{is_running}
use Rattle.stream_endpoint.specs.declared.flow.Flow.{Flow}
use Rattle.stream_endpoint.specs.declared.state.OutState.{OutState}
use Rattle.stream_endpoint.specs.declared.state.OutState.TheVariants.{Opening, Running, Halted, Resyncing}
use Rattle.net_machine.specs.declared.event.Event.{Event}
use Rattle.net_machine.specs.declared.event.Event.TheVariants.{Enter, Hop, Seen, Feed, Report, Command, Lose, Reply, Ask}
use Rattle.net_machine.specs.declared.plan.BlockPlan.{BlockPlan}
use Rattle.net_machine.specs.declared.plan.RunPlan.{RunPlan}
use Rattle.net_machine.specs.declared.plan.StreamPlan.{StreamPlan}
use Rattle.net_machine.specs.Blocks.{has_packet, is_clear, is_closed}
use Rattle.net_machine.specs.Front.{Front, Queued, StreamFront, front, front_at, queued_at}
use Rattle.net_machine.specs.Nodes.{route_from}
use Rattle.net_machine.specs.Passing.{Outcome, Passes, Returns, Arrives, Ends, passing}
use Rattle.net_machine.specs.Plans.{block_at, consumer_of, first_link, is_rx, plan_at, stream_into}
use Rattle.net_machine.specs.Queues.{back_vc, channel_of, forward_vc, link_of_queue, queue_of}
use Rattle.net_machine.specs.State.{State, node_in}

-- queue q has room for one more entry
abbrev pub has_place : Front → ℕ → Bool
has_place f q = nat_lt (length (queued_at f q)) f.tree.room

-- so has the queue of a directed link and a channel, where there is such a link
abbrev pub has_place_over : Front → ℕ → Option ℕ → Bool
has_place_over f vc link = option_map_or (λ d. has_place f (queue_of d vc)) link false

-- so has the queue by which packets of an end node leave it on a channel
abbrev pub has_place_from : Front → ℕ → Epid → Bool
has_place_from f vc epid = has_place_over f vc (first_link f.tree epid)

-- the sender runs, and the first ready packet has credit
abbrev pub can_send : Flow → StreamFront → List Packet → Bool
can_send flow st [] = false
can_send flow st (p ∷ ps) = is_running st.state && has_room flow st.outstanding (wire_of p)

-- a packet is of a stream: samples and commands go to its consumer, statuses to its producer
abbrev pub is_of : StreamPlan → Epid → Body → Bool
is_of plan dst (body.Samples time payload) = dst.0 == plan.to.0
is_of plan dst (body.Command command) = dst.0 == plan.to.0
is_of plan dst (body.Status status) = dst.0 == plan.from.0
is_of plan dst (body.Control control) = false
is_of plan dst (body.Management m) = false

-- no entry of a stream is in a queue
abbrev pub none_under_way : List (List Queued) → StreamPlan → Bool
none_under_way queues plan =
    list_all (λ queue. list_all (λ (e : Queued). not (is_of plan e.packet.dst e.packet.body)) queue) queues

-- no packet, command or status of a stream is in a queue, no status is due, and all given is taken
abbrev pub is_quiet : Front → ℕ → Bool
is_quiet f s = let st = front_at f s in
    none_under_way f.queues (plan_at f.plan s) && (not st.due && (st.taken == st.given))

abbrev pub is_opening : OutState → Bool
is_opening Opening = true
is_opening Running = false
is_opening Halted = false
is_opening Resyncing = false

abbrev pub is_resyncing : OutState → Bool
is_resyncing Opening = false
is_resyncing Running = false
is_resyncing Halted = false
is_resyncing Resyncing = true

-- no command was sent since the sender's state began, or the stream is quiet
abbrev pub can_repeat : Front → ℕ → Bool
can_repeat f s = not (front_at f s).commanded || is_quiet f s

-- the producer can't go on: its next packet has no credit, or it has none and makes no more
abbrev pub is_stuck : Flow → StreamFront → Bool → List Packet → Bool
is_stuck flow st closed [] = closed
is_stuck flow st closed (p ∷ ps) = not (has_room flow st.outstanding (wire_of p))

-- the stream is quiet, Sent isn't covered, and the producer can't go on
abbrev pub can_ping : Front → ℕ → Bool
can_ping f s = let st = front_at f s in
    is_quiet f s && (not (is_none st.outstanding) && is_stuck (plan_at f.plan s).flow st (is_closed f s) st.ready)

-- a command may be sent, as far as its stream tells
abbrev pub can_order : Front → ℕ → CmdOp → Bool
can_order f s Init = is_opening (front_at f s).state && can_repeat f s
can_order f s Ping = is_running (front_at f s).state && can_ping f s
can_order f s Resync = is_resyncing (front_at f s).state && can_repeat f s
can_order f s (Other code) = false

-- the consumer of a stream is an Rx
abbrev pub ends_at_rx : RunPlan → ℕ → Bool
ends_at_rx plan s = option_map_or (λ b. is_rx (block_at plan b).kind) (consumer_of plan s) false

-- n is more than was taken, and no more than was given
abbrev pub can_see : StreamFront → ℕ → Bool
can_see st n = nat_lt st.taken n && nat_le n st.given

-- a stream has a packet that isn't taken
abbrev pub has_untaken : Front → ℕ → Bool
has_untaken f s = nat_lt (front_at f s).taken (front_at f s).given

-- a block is no Rx, its input has a packet that isn't taken, and nothing is ready at its outputs
abbrev pub can_feed : Front → BlockPlan → ℕ → Bool
can_feed f block i = not (is_rx block.kind)
    && (option_map_or (has_untaken f) (stream_into f.plan block i) false && list_all (is_clear f) block.outs)

-- the first pending answer of node x has a route, and there is room
abbrev pub can_reply : Front → ℕ → List Packet → Bool
can_reply f x [] = false
can_reply f x (p ∷ ps) = has_place_over f back_vc (route_from f.tree f.nodes x p.dst)

-- where a packet goes on to a link, that link's queue of the same channel has room
abbrev pub has_way : Front → ℕ → Outcome → Bool
has_way f vc (Passes d p) = has_place f (queue_of d vc)
has_way f vc (Returns p) = true
has_way f vc Arrives = true
has_way f vc Ends = true

-- the front entry of queue q isn't marked, and there is room where it goes
abbrev pub can_hop : Front → ℕ → List Queued → Bool
can_hop f q [] = false
can_hop f q (e ∷ rest) =
    not e.marked && has_way f (channel_of q) (passing f.tree f.nodes (link_of_queue q) e.packet).outcome

-- the front entry is marked
abbrev pub can_lose : List Queued → Bool
can_lose [] = false
can_lose (e ∷ rest) = e.marked

-- an event is enabled, as far as the front tells
unfoldable pub may : Front → Event → Bool
may f (Enter s) = can_send (plan_at f.plan s).flow (front_at f s) (front_at f s).ready
    && has_place_from f forward_vc (plan_at f.plan s).from
may f (Command s op) = can_order f s op && has_place_from f forward_vc (plan_at f.plan s).from
may f (Report s) = (front_at f s).due && has_place_from f back_vc (plan_at f.plan s).to
may f (Seen s n) = ends_at_rx f.plan s && can_see (front_at f s) n
may f (Feed b i) = can_feed f (block_at f.plan b) i
may f (Ask x) = has_packet (node_in f.nodes x).requests && has_place_over f forward_vc (link_at f.tree.links x 0)
may f (Reply x) = can_reply f x (node_in f.nodes x).pending
may f (Lose q) = can_lose (queued_at f q)
may f (Hop q) = can_hop f q (queued_at f q)

-- an event is enabled in a state
abbrev pub enabled : State → Event → Bool
enabled w e = may (front w) e
