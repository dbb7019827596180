use Rattle.std.proofs.Common.{◌≡◌, ◌-◌, length}
use Rattle.credit_lane.proofs.tests.drain.Given as goal

abbrev pub invariant-loop-rx : goal.invariant-loop-rx
invariant-loop-rx l = l.rx.lane ≡ l.fn.rx.lane

abbrev pub decreases-loop-rx : goal.decreases-loop-rx
decreases-loop-rx l = length l.rx.known - length l.rx.got
