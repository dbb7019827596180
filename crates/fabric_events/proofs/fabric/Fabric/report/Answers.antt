use Rattle.std.proofs.Common.{ℕ, ◌<◌, List, length, ◌∙◌, sym, ap, subst, Option}
use Rattle.std.specs.Prelude.{IfSome}
use Rattle.chdr_packets.specs.declared.packet.Body.TheVariants as body
use Rattle.chdr_words.specs.declared.status.Status.{Status}
use Rattle.net_machine.specs.Faults.{is_named}
use Rattle.net_machine.specs.Passing.{message}
use Rattle.net_machine.specs.Plans.{first_link, plan_at}
use Rattle.net_machine.specs.Queues.{queue_of}
use Rattle.net_machine.specs.declared.plan.StreamPlan.{StreamPlan}
use Rattle.net_present.specs.Kept.{now_at}
use Rattle.net_present.specs.Onward.{entries_at}
use Rattle.net_present.specs.StreamSteps.{receiving_now, sends_status_now}
use Rattle.stream_endpoint.specs.InEnd.{status_of}
use Rattle.net_faults.specs.declared.fault.Fault.TheVariants as fault
use Rattle.fabric_parts.specs.Streams.{StreamSeen}
use Rattle.fabric_events.specs.Fabrics.{present_of}
use Rattle.fabric_lists.specs.StreamsView.{streams_of}
use Rattle.fabric_events.proofs.EventLemmas.{enters_by, plan_there, stream_changed}
use Rattle.fabric_events.proofs.fabric.Fabric.report.Goals as goal

pub enter_over-requires-clause-room : goal.enter_over-requires-clause-room
enter_over-requires-clause-room c =
    let f = c.args.self.now in
    subst (λ (o : Option ℕ). IfSome o (λ d. length (entries_at f.queues.entries (queue_of d 1)) < f.wires.room))
    (sym (c.first_link-link.ensures.value ∙ ap (λ (p : StreamPlan). first_link f.wires p.to) c.stream_at-plan.ensures)) c.requires.room

pub returns-clause-present : goal.returns-clause-present
returns-clause-present c =
    let f = c.args.self.now in
    let s = c.args.s in
    let st = now_at (streams_of f.streams.items).now s in
    let link = c.first_link-link.ensures.value ∙ ap (λ (p : StreamPlan). first_link f.wires p.to) c.stream_at-plan.ensures in
    let marked = c.is_named_status-marked.ensures ∙ ap (λ (k : ℕ). is_named f.faults (fault.Status s k))
    (c.statuses-place.ensures ∙ ap (λ (items : List StreamSeen). (now_at (streams_of items).now s).statuses) c.as_slice.ensures.value) in
    let packet = c.message.ensures ∙ ap (λ (p : StreamPlan). message 1 p.from (body.Status c.report-status.result)) c.stream_at-plan.ensures
    ∙ ap (λ (status : Status). message 1 (plan_at f.plan s).from (body.Status status))
    (c.report-status.ensures.answer ∙ ap (λ (p : StreamPlan). status_of (receiving_now p st)) (plan_there f s c.requires.sound)) in
    enters_by (present_of f) _ _ s sends_status_now 1 _ _ _ _ _ _ c.enter_over.ensures.present
    (stream_changed f (streams_of c.report-status.new.streams.items) s sends_status_now c.report-status.ensures.next) link marked packet
