use Rattle.std.proofs.Common.{◌∙◌}
use Rattle.net_present.specs.StreamSteps.{gets_order_now}
use Rattle.fabric_lists.proofs.streams.obey.Goals as goal
use Rattle.fabric_lists.proofs.FlagLemmas.{flagged, has_stream}
use Rattle.fabric_lists.proofs.StreamLemmas.{written_in, there_in}

pub returns : goal.returns
returns c = written_in c.streams.inside.parts.items c.args.streams.now c.args.s c.index_mut-stream.result.now c.obey.new.self (gets_order_now c.args.command.now) c.streams.view_is c.requires.there c.index_mut-stream.ensures.value c.obey.ensures

pub note-requires : goal.note-requires
note-requires c =
    has_stream c.streams.inside.parts.items c.streams.inside.flags c.args.s c.streams.invariant
    (there_in c.streams.inside.parts.items c.args.streams.now c.args.s c.streams.view_is c.requires.there)

pub invariant_of-streams : goal.invariant_of-streams
invariant_of-streams c = c.note.ensures ∙ flagged c.streams.inside.parts.items c.streams.inside.flags c.args.s c.obey.new.self c.streams.invariant
