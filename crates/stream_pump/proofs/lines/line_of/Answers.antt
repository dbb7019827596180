use Rattle.std.proofs.Common.{◌≡◌, List, ap, sym, ◌∙◌}
use Rattle.std.proofs.lemmas.List.{get_or_read}
use Rattle.block_library.specs.Lines.{line_of}
use Rattle.chdr_packets.specs.declared.packet.Packet.{Packet}
use Rattle.net_machine.specs.Plans.{block_at, no_block}
use Rattle.net_machine.specs.declared.plan.BlockPlan.{BlockPlan}
use Rattle.stream_pump.specs.Telling.{has_line}
use Rattle.stream_pump.proofs.Taking.{line-is}
use Rattle.stream_pump.proofs.lines.line_of.Goals as goal

pub returns-in-Rx : goal.returns-in-Rx
returns-in-Rx c =
    let plan = c.args.plan.now in
    let b = c.args.b in
    let block = c.index-as_slice-b.result in
    let is : block ≡ block_at plan b =
    get_or_read plan.blocks b block c.requires.there (rw c.as_slice.ensures at c.index-as_slice-b.is) no_block in
    let kind = c.in-Rx.is in (
      ap has_line (ap (λ (x : BlockPlan). x.kind) (sym is) ∙ kind),
      λ w stands taken. c.of.ensures
          ∙ ap (λ (ps : List Packet). line_of b block.item ps) c.drained.ensures
          ∙ line-is c.args.net.now.present w plan c.args.drains.now b block c.requires.plan.same stands taken is kind,
    )
