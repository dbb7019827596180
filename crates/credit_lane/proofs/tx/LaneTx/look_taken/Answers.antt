use Rattle.std.proofs.Common.{ap, arith}
use Rattle.credit_lane.proofs.Putting.{taken_keeps}
use Rattle.credit_lane.proofs.tx.LaneTx.look_taken.Goals as goal

pub load-taken-requires : goal.load-taken-requires
load-taken-requires c = let e = c.self.invariant.2 in let h = c.self.invariant.1 in
    (c.self.invariant.0, omega (arith, h.words), taken_keeps _ _ _ _ (ap (λ m. m.0.puts) e.seat))
