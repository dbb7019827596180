use Rattle.std.proofs.Common.{◌∙◌}
use Rattle.stream_pump.proofs.Sided.{sides-more}
use Rattle.stream_pump.proofs.sides.sides_of.Goals as goal

pub loop-s-preserved : goal.loop-s-preserved
loop-s-preserved c =
    c.in_ok-push.ensures.items
    ∙ sides-more c.args.plan.now c.loop-s.sides.items c.loop-s.s c.is_filled_by_tx.result c.ends_at_rx.result c.loop-s.invariant
    c.is_filled_by_tx.ensures c.ends_at_rx.ensures
