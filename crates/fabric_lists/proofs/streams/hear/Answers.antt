use Rattle.std.proofs.Common.{◌∙◌, ap}
use Rattle.net_machine.specs.declared.plan.StreamPlan.{StreamPlan}
use Rattle.net_present.specs.StreamSteps.{gets_status_now}
use Rattle.fabric_parts.specs.Streams.{on_stream}
use Rattle.fabric_lists.specs.StreamsView.{plan_seen, streams_of}
use Rattle.fabric_lists.proofs.streams.hear.Goals as goal
use Rattle.fabric_lists.proofs.FlagLemmas.{flagged, has_stream}
use Rattle.fabric_lists.proofs.StreamLemmas.{found_in, there_in, written_in}

pub returns : goal.returns
returns c =
    let parts = c.streams.inside.parts.items in
    let seen = c.args.streams.now in
    let old = c.index_mut-stream.result.now in
    let here = found_in parts seen c.args.s old c.streams.view_is c.requires.there c.index_mut-stream.ensures.value in
    written_in parts seen c.args.s old c.hear.new.self (gets_status_now (plan_seen (streams_of seen.items).plans c.args.s) c.args.status.now)
    c.streams.view_is c.requires.there c.index_mut-stream.ensures.value
    (c.hear.ensures ∙ ap (λ (p : StreamPlan). on_stream (gets_status_now p c.args.status.now) old) here.plan)

pub note-requires : goal.note-requires
note-requires c =
    has_stream c.streams.inside.parts.items c.streams.inside.flags c.args.s c.streams.invariant
    (there_in c.streams.inside.parts.items c.args.streams.now c.args.s c.streams.view_is c.requires.there)

pub invariant_of-streams : goal.invariant_of-streams
invariant_of-streams c = c.note.ensures ∙ flagged c.streams.inside.parts.items c.streams.inside.flags c.args.s c.hear.new.self c.streams.invariant
