use Rattle.std.proofs.Common.{◌≡◌, ◌≤◌, length}
use Rattle.credit_lane.specs.declared.plan.LanePlan.TheVariants.{Any}
use Rattle.credit_lane.proofs.tests.carry.Given as goal

abbrev pub invariant-loop : goal.invariant-loop
invariant-loop g l = (l.tx.lane ≡ l.rx.lane) × (length l.tx.put ≡ l.put) × (l.put ≤ l.most) ×
    (l.tx.lane.plan ≡ Any)
