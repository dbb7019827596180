use Rattle.std.proofs.Common.{◌∙◌, ap, arith}
use Rattle.fabric_lists.specs.StreamFlags.{flags_of}
use Rattle.fabric_lists.proofs.FilledLemmas.{filled, filled_all, filled_count, filled_more}
use Rattle.fabric_lists.proofs.FlagLemmas.{flagged, has_stream, none_flagged, silent}
use Rattle.fabric_lists.proofs.stream_flags.StreamFlags.of.Goals as goal

pub loop-s-init : goal.loop-s-init
loop-s-init c = none_flagged c.args.parts.now _ _ _ c.in_ok-new.ensures c.in_ok-new-2.ensures c.in_ok-new-3.ensures

pub note-requires : goal.note-requires
note-requires c =
    let many = filled_count c.args.parts.now c.loop-s.s silent in
    has_stream (filled c.args.parts.now c.loop-s.s silent) c.loop-s.flags c.loop-s.s c.loop-s.invariant (omega arith)

pub loop-s-preserved : goal.loop-s-preserved
loop-s-preserved c =
    let parts = c.args.parts.now in
    let s = c.loop-s.s in
    let part = c.index-parts-s.result in
    c.note.ensures ∙ flagged (filled parts s silent) c.loop-s.flags s part c.loop-s.invariant
    ∙ ap flags_of (filled_more parts s part silent c.loop-s-test.true c.index-parts-s.is)

pub returns : goal.returns
returns c =
    let past = c.loop-s-test.false in
    c.loop-s.invariant ∙ ap flags_of (filled_all c.args.parts.now c.loop-s.s silent (omega arith))
