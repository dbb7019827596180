use Rattle.std.proofs.Common.{◌<◌, length, arith, sym, ap, ◌∙◌}
use Rattle.std.proofs.lemmas.List.{get_or_read}
use Rattle.stream_lanes.specs.Sides.{DrainSide}
use Rattle.stream_rounds.specs.Meeting.{HaveMetDrain}
use Rattle.stream_rounds.specs.Sides.{OutletSide}
use Rattle.stream_rounds.proofs.Meeting.{pairs-all, pairs-first, pairs-more}
use Rattle.stream_rounds.proofs.pump.meet_drains.Goals as goal

pub loop-i-init : goal.loop-i-init
loop-i-init c = pairs-first HaveMetDrain c.args.outlets.now.items c.args.drains.now.items

pub meet-requires : goal.meet-requires
meet-requires c =
    let inv = c.loop-i.invariant in
    let i = c.loop-i.i in
    let ss = c.loop-i.outlets.items in
    let xs = c.loop-i.drains.items in
    let s = c.index_mut-outlet.result.now in
    let x = c.index_mut-drain.result.now in
    let lt = c.loop-i-test.true in
    let end = c.len-i-end.ensures in
    let many = inv.count in
    let other = inv.other in
    let count = c.requires.count in
    let in-first : i < length c.args.outlets.now.items = omega (arith, lt, end, c.args.outlets.now.ok.0) in
    let in-ss : i < length ss = omega (arith, in-first, many) in
    let in-xs : i < length xs = omega (arith, in-first, other, count) in
    ap (λ (z : OutletSide). z.tx.lane) (get_or_read ss i s in-ss c.index_mut-outlet.ensures.value s ∙ inv.first i s (omega arith))
    ∙ c.requires.lanes i s x in-first
    ∙ sym (ap (λ (z : DrainSide). z.rx.lane) (get_or_read xs i x in-xs c.index_mut-drain.ensures.value x ∙ inv.second i x (omega arith)))

pub loop-i-preserved : goal.loop-i-preserved
loop-i-preserved c =
    let inv = c.loop-i.invariant in
    let i = c.loop-i.i in
    let ss = c.loop-i.outlets.items in
    let xs = c.loop-i.drains.items in
    let s = c.index_mut-outlet.result.now in
    let x = c.index_mut-drain.result.now in
    let lt = c.loop-i-test.true in
    let end = c.len-i-end.ensures in
    let many = inv.count in
    let other = inv.other in
    let count = c.requires.count in
    let in-ss : i < length ss = omega (arith, lt, end, many, c.args.outlets.now.ok.0) in
    let in-xs : i < length xs = omega (arith, lt, end, other, count, c.args.outlets.now.ok.0) in
    pairs-more HaveMetDrain i c.args.outlets.now.items ss c.args.drains.now.items xs s c.meet.new.self x c.meet.new.drain inv in-ss in-xs
    (λ d. sym (get_or_read ss i s in-ss c.index_mut-outlet.ensures.value d)) (λ d. sym (get_or_read xs i x in-xs c.index_mut-drain.ensures.value d)) c.meet.ensures

pub returns : goal.returns
returns c =
    pairs-all HaveMetDrain c.loop-i.i c.args.outlets.now.items c.loop-i.outlets.items c.args.drains.now.items c.loop-i.drains.items c.loop-i.invariant
    (let low = c.loop-i-test.false in let end = c.len-i-end.ensures in omega (arith, low, end, c.args.outlets.now.ok.0))
