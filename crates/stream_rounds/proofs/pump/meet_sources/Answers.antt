use Rattle.std.proofs.Common.{◌<◌, length, arith, sym, ap, ◌∙◌}
use Rattle.std.proofs.lemmas.List.{get_or_read}
use Rattle.stream_lanes.specs.Sides.{SourceSide}
use Rattle.stream_rounds.specs.Meeting.{HaveMet}
use Rattle.stream_rounds.specs.Sides.{IntakeSide}
use Rattle.stream_rounds.proofs.Meeting.{pairs-all, pairs-first, pairs-more}
use Rattle.stream_rounds.proofs.pump.meet_sources.Goals as goal

pub loop-i-init : goal.loop-i-init
loop-i-init c = pairs-first HaveMet c.args.sources.now.items c.args.intakes.now.items

pub meet-requires : goal.meet-requires
meet-requires c =
    let inv = c.loop-i.invariant in
    let i = c.loop-i.i in
    let ss = c.loop-i.sources.items in
    let xs = c.loop-i.intakes.items in
    let s = c.index_mut-source.result.now in
    let x = c.index_mut-intake.result.now in
    let lt = c.loop-i-test.true in
    let end = c.len-i-end.ensures in
    let many = inv.count in
    let other = inv.other in
    let count = c.requires.count in
    let in-first : i < length c.args.sources.now.items = omega (arith, lt, end, c.args.sources.now.ok.0) in
    let in-ss : i < length ss = omega (arith, in-first, many) in
    let in-xs : i < length xs = omega (arith, in-first, other, count) in
    ap (λ (z : SourceSide). z.tx.lane) (get_or_read ss i s in-ss c.index_mut-source.ensures.value s ∙ inv.first i s (omega arith))
    ∙ c.requires.lanes i s x in-first
    ∙ sym (ap (λ (z : IntakeSide). z.rx.lane) (get_or_read xs i x in-xs c.index_mut-intake.ensures.value x ∙ inv.second i x (omega arith)))

pub loop-i-preserved : goal.loop-i-preserved
loop-i-preserved c =
    let inv = c.loop-i.invariant in
    let i = c.loop-i.i in
    let ss = c.loop-i.sources.items in
    let xs = c.loop-i.intakes.items in
    let s = c.index_mut-source.result.now in
    let x = c.index_mut-intake.result.now in
    let lt = c.loop-i-test.true in
    let end = c.len-i-end.ensures in
    let many = inv.count in
    let other = inv.other in
    let count = c.requires.count in
    let in-ss : i < length ss = omega (arith, lt, end, many, c.args.sources.now.ok.0) in
    let in-xs : i < length xs = omega (arith, lt, end, other, count, c.args.sources.now.ok.0) in
    pairs-more HaveMet i c.args.sources.now.items ss c.args.intakes.now.items xs s c.meet.new.source x c.meet.new.self inv in-ss in-xs
    (λ d. sym (get_or_read ss i s in-ss c.index_mut-source.ensures.value d)) (λ d. sym (get_or_read xs i x in-xs c.index_mut-intake.ensures.value d)) c.meet.ensures

pub returns : goal.returns
returns c =
    pairs-all HaveMet c.loop-i.i c.args.sources.now.items c.loop-i.sources.items c.args.intakes.now.items c.loop-i.intakes.items c.loop-i.invariant
    (let low = c.loop-i-test.false in let end = c.len-i-end.ensures in omega (arith, low, end, c.args.sources.now.ok.0))
