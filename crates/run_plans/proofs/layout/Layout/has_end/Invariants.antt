use Rattle.std.proofs.Common.{◌≡◌, ℕ, ◌<◌, Some}
use Rattle.run_plans.specs.Layouts.{end_at}
use Rattle.run_plans.proofs.layout.Layout.has_end.Given as goal

abbrev pub invariant-loop-block : goal.invariant-loop-block
invariant-loop-block l = (b i : ℕ) → b < l.block-index → end_at l.side l.self b i ≡ Some l.epid → ⊥
