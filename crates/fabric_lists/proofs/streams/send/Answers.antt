use Rattle.std.proofs.Common.{◌≡◌, ◌∷◌, ◌∙◌, ap}
use Rattle.net_machine.specs.Streams.{numbered}
use Rattle.net_machine.specs.declared.plan.StreamPlan.{StreamPlan}
use Rattle.net_present.specs.Present.{StreamNow}
use Rattle.net_present.specs.StreamSteps.{sends_first_now}
use Rattle.stream_endpoint.specs.Sender.{next_number}
use Rattle.fabric_lists.specs.StreamsView.{plan_seen, streams_of}
use Rattle.fabric_lists.proofs.streams.send.Goals as goal
use Rattle.fabric_lists.proofs.FlagLemmas.{flagged, has_stream}
use Rattle.fabric_lists.proofs.StreamLemmas.{found_in, there_in, written_in}

pub returns : goal.returns
returns c p rest ready =
    let parts = c.streams.inside.parts.items in
    let seen = c.args.streams.now in
    let old = c.index_mut-stream.result.now in
    let here = found_in parts seen c.args.s old c.streams.view_is c.requires.there c.index_mut-stream.ensures.value in
    let first : old.now.ready ≡ p ∷ rest = ap (λ (n : StreamNow). n.ready) here.now ∙ ready in
    let both = c.send-packet.ensures p rest first in (
      written_in parts seen c.args.s old c.send-packet.new.self (sends_first_now p rest) c.streams.view_is c.requires.there c.index_mut-stream.ensures.value both.0,
      both.1 ∙ ap (λ (plan : StreamPlan). numbered plan (next_number old.now.sender) p) here.plan
          ∙ ap (λ (n : StreamNow). numbered (plan_seen (streams_of seen.items).plans c.args.s) (next_number n.sender) p) here.now,
    )

pub note-requires : goal.note-requires
note-requires c =
    has_stream c.streams.inside.parts.items c.streams.inside.flags c.args.s c.streams.invariant
    (there_in c.streams.inside.parts.items c.args.streams.now c.args.s c.streams.view_is c.requires.there)

pub invariant_of-streams : goal.invariant_of-streams
invariant_of-streams c = c.note.ensures ∙ flagged c.streams.inside.parts.items c.streams.inside.flags c.args.s c.send-packet.new.self c.streams.invariant
