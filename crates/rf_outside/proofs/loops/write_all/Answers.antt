use Rattle.std.proofs.Common.{arith}
use Rattle.rf_outside.proofs.Moved.{AddsUpTo-take}
use Rattle.rf_outside.proofs.loops.write_all.Goals as goal

pub loop-rest-preserved : goal.loop-rest-preserved
loop-rest-preserved g c = (AddsUpTo-take _ _ _ _ c.loop-rest.rest.now c.in_ok-count.count c.loop-rest.invariant.0 c.in_ok-count.ensures.bytes.bytes, omega (arith, c.in_ok-count.ensures.cause.later))
