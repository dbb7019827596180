use Rattle.std.proofs.Common.{◌<◌, length, arith, ap, ◌∙◌}
use Rattle.fabric_lists.specs.Opened.{is_tx_stream}
use Rattle.net_machine.specs.declared.plan.RunPlan.{RunPlan}
use Rattle.stream_pump.specs.declared.sides.Sides.{Sides}
use Rattle.stream_pump.proofs.Sided.{sides-read, sides-within}
use Rattle.stream_pump.proofs.sides.SidedPlan.begins_at_tx.Goals as goal

pub index-requires : goal.index-requires
index-requires c =
    let asked = c.requires in
    let same = ap (λ (plan : RunPlan). length plan.streams) c.self.view_is in
    let lt : c.args.s < length c.self.inside.plan.now.streams = omega (arith, asked, same) in
    let within = sides-within c.self.inside.plan.now c.self.inside.sides.items c.args.s c.self.invariant.sides lt in
    let whole = c.self.inside.sides.ok.0 in
    omega (arith, within, whole)

pub returns : goal.returns
returns c =
    let asked = c.requires in
    let same = ap (λ (plan : RunPlan). length plan.streams) c.self.view_is in
    let lt : c.args.s < length c.self.inside.plan.now.streams = omega (arith, asked, same) in
    ap (λ (side : Sides). side.from_tx) (sides-read c.self.inside.plan.now c.self.inside.sides.items c.args.s c.index.result.now c.self.invariant.sides lt c.index.ensures)
    ∙ ap (λ (plan : RunPlan). is_tx_stream plan c.args.s) c.self.view_is
