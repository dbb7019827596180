use Rattle.std.proofs.Common.{ap, arith}
use Rattle.credit_lane.proofs.Taking.{put_keeps}
use Rattle.credit_lane.proofs.rx.LaneRx.look_put.Goals as goal

pub load-put-requires : goal.load-put-requires
load-put-requires c = let e = c.self.invariant.2 in let h = c.self.invariant.1 in
    (c.self.invariant.0, omega (arith, h.words), put_keeps _ _ _ _ (ap (λ m. m.0.takes) e.seat))
