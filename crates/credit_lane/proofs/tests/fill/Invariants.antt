use Rattle.std.proofs.Common.{◌-◌, ◌≡◌, ◌≤◌, length}
use Rattle.credit_lane.proofs.tests.fill.Given as goal

abbrev pub invariant-loop-put : goal.invariant-loop-put
invariant-loop-put l = (l.tx.lane ≡ l.fn.tx.lane) × (length l.tx.put ≡ l.put) × (l.put ≤ l.most)

abbrev pub decreases-loop-put : goal.decreases-loop-put
decreases-loop-put l = l.most - l.put
