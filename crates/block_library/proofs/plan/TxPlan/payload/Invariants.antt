use Rattle.std.proofs.Common.{◌≡◌, ◌-◌}
use Rattle.block_library.specs.Samples.{samples_from}
use Rattle.block_library.proofs.plan.TxPlan.payload.Given as goal

-- the samples before this one are written
abbrev pub invariant-loop-number : goal.invariant-loop-number
invariant-loop-number l = l.bytes.items ≡ samples_from l.self.item l.first (l.number - l.first)
