use Rattle.std.proofs.Common.{ℕ, ◌<◌, List, length, ◌∙◌, sym, ap, subst, Option}
use Rattle.std.specs.Prelude.{IfSome}
use Rattle.chdr_packets.specs.declared.packet.Body.TheVariants as body
use Rattle.chdr_words.specs.declared.command.Command.{Command}
use Rattle.net_machine.specs.Faults.{is_named}
use Rattle.net_machine.specs.Passing.{message}
use Rattle.net_machine.specs.Plans.{first_link, plan_at}
use Rattle.net_machine.specs.Queues.{queue_of}
use Rattle.net_machine.specs.declared.plan.StreamPlan.{StreamPlan}
use Rattle.net_present.specs.Kept.{now_at}
use Rattle.net_present.specs.Onward.{entries_at}
use Rattle.net_present.specs.StreamSteps.{sending_now, sends_order_now}
use Rattle.stream_endpoint.specs.OutEnd.{command_of}
use Rattle.net_faults.specs.declared.fault.Fault.TheVariants as fault
use Rattle.fabric_parts.specs.Streams.{StreamSeen}
use Rattle.fabric_events.specs.Fabrics.{present_of}
use Rattle.fabric_lists.specs.StreamsView.{streams_of}
use Rattle.fabric_events.proofs.EventLemmas.{enters_by, plan_there, stream_changed}
use Rattle.fabric_events.proofs.fabric.Fabric.order.Goals as goal

pub enter_over-requires-clause-room : goal.enter_over-requires-clause-room
enter_over-requires-clause-room c =
    let f = c.args.self.now in
    subst (λ (o : Option ℕ). IfSome o (λ d. length (entries_at f.queues.entries (queue_of d 0)) < f.wires.room))
    (sym (c.first_link-link.ensures.value ∙ ap (λ (p : StreamPlan). first_link f.wires p.from) c.stream_at-plan.ensures)) c.requires.room

pub returns-clause-present : goal.returns-clause-present
returns-clause-present c =
    let f = c.args.self.now in
    let s = c.args.s in
    let st = now_at (streams_of f.streams.items).now s in
    let link = c.first_link-link.ensures.value ∙ ap (λ (p : StreamPlan). first_link f.wires p.from) c.stream_at-plan.ensures in
    let marked = c.is_named_command-marked.ensures ∙ ap (λ (k : ℕ). is_named f.faults (fault.Command s k))
    (c.commands-place.ensures ∙ ap (λ (items : List StreamSeen). (now_at (streams_of items).now s).commands) c.as_slice.ensures.value) in
    let packet = c.message.ensures ∙ ap (λ (p : StreamPlan). message 0 p.to (body.Command c.order-command.result)) c.stream_at-plan.ensures
    ∙ ap (λ (command : Command). message 0 (plan_at f.plan s).to (body.Command command))
    (c.order-command.ensures.answer ∙ ap (λ (p : StreamPlan). command_of c.args.op (sending_now p st)) (plan_there f s c.requires.sound)) in
    enters_by (present_of f) _ _ s (sends_order_now c.args.op) 0 _ _ _ _ _ _ c.enter_over.ensures.present
    (stream_changed f (streams_of c.order-command.new.streams.items) s (sends_order_now c.args.op) c.order-command.ensures.next) link marked packet
