use Rattle.std.proofs.Common.{ℕ, ◌<◌, List, length, refl, ◌∙◌, sym, ap, subst, Option}
use Rattle.std.specs.Prelude.{IfSome}
use Rattle.chdr_packets.specs.declared.packet.Packet.{Packet}
use Rattle.net_machine.specs.Faults.{is_named}
use Rattle.net_machine.specs.Plans.{first_link, plan_at}
use Rattle.net_machine.specs.Queues.{queue_of}
use Rattle.net_machine.specs.Streams.{numbered}
use Rattle.net_machine.specs.declared.plan.StreamPlan.{StreamPlan}
use Rattle.net_present.specs.Kept.{now_at}
use Rattle.net_present.specs.Onward.{enters_now, entries_at}
use Rattle.net_present.specs.Present.{front_now_of}
use Rattle.net_present.specs.StreamSteps.{sends_first_now}
use Rattle.stream_endpoint.specs.Sender.{next_number}
use Rattle.net_faults.specs.declared.fault.Fault.TheVariants as fault
use Rattle.fabric_parts.specs.Streams.{StreamSeen}
use Rattle.fabric_events.specs.Fabrics.{present_of}
use Rattle.fabric_lists.specs.StreamsView.{streams_of}
use Rattle.fabric_events.proofs.EventLemmas.{enters_by, plan_there, ready_of, sound_streams, stream_changed, tx_there}
use Rattle.fabric_events.proofs.fabric.Fabric.enter.Goals as goal

pub enter_over-requires-clause-room : goal.enter_over-requires-clause-room
enter_over-requires-clause-room c =
    let f = c.args.self.now in
    subst (λ (o : Option ℕ). IfSome o (λ d. length (entries_at f.queues.entries (queue_of d 0)) < f.wires.room))
    (sym (c.first_link-link.ensures.value ∙ ap (λ (p : StreamPlan). first_link f.wires p.from) c.stream_at.ensures)) c.requires.room

pub send-packet-requires-clause-offered : goal.send-packet-requires-clause-offered
send-packet-requires-clause-offered c made =
    c.requires.offered (sym (tx_there c.args.self.now c.args.s c.requires.sound c.requires.there) ∙ made)

pub enter_over-requires-clause-sound : goal.enter_over-requires-clause-sound
enter_over-requires-clause-sound c =
    let f = c.args.self.now in
    let s = c.args.s in
    let st = now_at (streams_of f.streams.items).now s in
    let front = ready_of (plan_at f.plan s).flow (front_now_of st) st.ready c.requires.credit in
    let both = c.send-packet.ensures front.first front.rest front.is in
    sound_streams f (record f { streams = c.send-packet.new.streams }) s (sends_first_now front.first front.rest) c.requires.sound refl both.0

pub returns-clause-present : goal.returns-clause-present
returns-clause-present c =
    let f = c.args.self.now in
    let s = c.args.s in
    let st = now_at (streams_of f.streams.items).now s in
    let link = c.first_link-link.ensures.value ∙ ap (λ (p : StreamPlan). first_link f.wires p.from) c.stream_at.ensures in
    let marked = c.is_named_samples-marked.ensures ∙ ap (λ (k : ℕ). is_named f.faults (fault.Samples s k))
    (c.sent-place.ensures ∙ ap (λ (items : List StreamSeen). (now_at (streams_of items).now s).sent) c.as_slice.ensures.value) in
    let front = ready_of (plan_at f.plan s).flow (front_now_of st) st.ready c.requires.credit in
    let both = c.send-packet.ensures front.first front.rest front.is in
    let packet = both.1 ∙ ap (λ (p : StreamPlan). numbered p (next_number st.sender) front.first) (plan_there f s c.requires.sound) in
    enters_by (present_of f) _ _ s (sends_first_now front.first front.rest) 0 _ _ _ _ _ _ c.enter_over.ensures.present
    (stream_changed f (streams_of c.send-packet.new.streams.items) s (sends_first_now front.first front.rest) both.0) link marked packet
    ∙ sym (ap (λ (ready : List Packet). enters_now s ready (present_of f)) front.is)
