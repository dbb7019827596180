use Rattle.std.proofs.Common.{◌∙◌, ◌<◌, ap, sym, take, length, arith}
use Rattle.block_library.specs.Lines.{line_of, line_with}
use Rattle.block_library.proofs.LineLemmas.{line_of-nil, line_of-more}
use Rattle.block_library.proofs.line.Line.of.Goals as goal

pub loop-packet-init : goal.loop-packet-init
loop-packet-init c = c.new-line.ensures ∙ sym (line_of-nil c.args.block c.args.item)

pub loop-packet-preserved : goal.loop-packet-preserved
loop-packet-preserved c =
    let ps = c.args.packets.now in
    let i = c.loop-packet.packet-index in
    let p = c.packet-item.result in
    let below : i < length ps = omega arith in
    c.take.ensures
    ∙ ap (λ l. line_with c.args.item l p) c.loop-packet.invariant
    ∙ ap (λ q. line_with c.args.item (line_of c.args.block c.args.item (take i ps)) q) c.packet-item.is
    ∙ sym (line_of-more c.args.block c.args.item ps i p below)
