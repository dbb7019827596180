-- How the one message of a network goes on, and what it changes.
use Rattle.std.specs.Prelude.{ℕ, ◌+◌, Bool, true, false, Option, None, Some, if◌then◌else◌}
use Rattle.std.specs.Option.{option_map_or}
use Rattle.block_registers.specs.Operations.{answer}
use Rattle.block_registers.specs.Slots.{slots_after}
use Rattle.chdr_packets.specs.declared.packet.Body.{Body}
use Rattle.chdr_packets.specs.declared.packet.Body.TheVariants as body
use Rattle.chdr_packets.specs.declared.packet.Packet.{Packet}
use Rattle.chdr_words.specs.declared.control.Control.{Control}
use Rattle.net_topology.specs.Links.{end_of, link_at}
use Rattle.net_faults.specs.declared.fault.Fault.TheVariants as fault
use Rattle.net_machine.specs.Faults.{is_named}
use Rattle.net_machine.specs.Nodes.{is_host_at, own_epid, place_at, route_from, slot_at}
use Rattle.net_machine.specs.Passing.{Outcome, Passes, Passing, Returns, Arrives, Ends, message, passing}
use Rattle.net_machine.specs.Queues.{back_vc, channel_of, forward_vc, link_of_queue, queue_of}
use Rattle.net_machine.specs.State.{State}
use Rattle.net_lone.specs.Stages.{Answered, Answering, Asking, Gone, Lone, Stage, UnderWay, lone}

-- a message enters its first queue, that of a directed link and a channel
abbrev pub entered : State → ℕ → Bool → Packet → Option ℕ → Lone
entered w vc marked p None = lone w Gone
entered w vc marked p (Some d) = lone w (UnderWay (queue_of d vc) marked p)

-- an answer of node x, which ends at once where no link leads on
abbrev pub answering_at : State → ℕ → Packet → Stage
answering_at w x p = option_map_or (λ d. Answering x p) (route_from w.tree w.nodes x p.dst) Gone

-- an answer that comes to node x, where only a host expects it
abbrev pub answered_at : State → ℕ → Packet → Stage
answered_at w x p = if is_host_at w.tree x then Answered x p else Gone

-- the acknowledgement of a control request that comes to node x
abbrev pub acknowledgement : State → ℕ → Control → Packet
acknowledgement w x request =
    message back_vc request.src (body.Control (answer (own_epid w.tree x) (place_at w x request.dst_port) request))

-- the network when a control request was operated at node x
abbrev pub operated : State → ℕ → Control → State
operated w x request = record w { banks = slots_after w.banks (slot_at w.tree x request.dst_port) request }

-- a message with this body comes to end node x
abbrev pub arrived : State → ℕ → Packet → Body → Lone
arrived w x p (body.Samples time payload) = lone w Gone
arrived w x p (body.Status status) = lone w Gone
arrived w x p (body.Command command) = lone w Gone
arrived w x p (body.Control control) =
    if control.ack then lone w (answered_at w x p) else lone (operated w x control) (answering_at w x (acknowledgement w x control))
arrived w x p (body.Management m) = lone w (answered_at w x p)

-- what becomes of a message that came over directed link d on a channel
abbrev pub passed : State → ℕ → ℕ → Packet → Outcome → Lone
passed w d vc p (Passes e on) = lone w (UnderWay (queue_of e vc) false on)
passed w d vc p (Returns back) = lone w (answering_at w (end_of w.tree.links d) back)
passed w d vc p Arrives = arrived w (end_of w.tree.links d) p p.body
passed w d vc p Ends = lone w Gone

-- the network with these nodes, and what becomes of the message
abbrev pub passed_so : State → ℕ → ℕ → Packet → Passing → Lone
passed_so w d vc p it = passed (record w { nodes = it.nodes }) d vc p it.outcome

-- a message moves one node on, over directed link d; the operations of a hop may change a table
abbrev pub moved_over : State → ℕ → ℕ → Packet → Lone
moved_over w d vc p = passed_so w d vc p (passing w.tree w.nodes d p)

-- what a message does next
abbrev pub goes_on_from : State → Stage → Lone
goes_on_from w (Asking x p) =
    entered (record w { requests = w.requests + 1 }) forward_vc (is_named w.faults (fault.Request w.requests)) p (link_at w.tree.links x 0)
goes_on_from w (UnderWay q true p) = lone w Gone
goes_on_from w (UnderWay q false p) = moved_over w (link_of_queue q) (channel_of q) p
goes_on_from w (Answering x p) =
    entered (record w { answers = w.answers + 1 }) back_vc (is_named w.faults (fault.Answer w.answers)) p (route_from w.tree w.nodes x p.dst)
goes_on_from w (Answered x p) = lone w (Answered x p)
goes_on_from w Gone = lone w Gone

abbrev pub lone_after : Lone → Lone
lone_after l = goes_on_from l.rest l.stage
