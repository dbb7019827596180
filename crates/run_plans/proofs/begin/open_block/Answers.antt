use Rattle.std.proofs.Common.{ℕ, below_more}
use Rattle.net_machine.specs.CanBegin.{HasStreams}
use Rattle.run_plans.proofs.begin.open_block.Goals as goal

pub loop-b-preserved : goal.loop-b-preserved
loop-b-preserved c =
    below_more (λ (k : ℕ). HasStreams c.args.plan.now k) c.loop-b.b c.loop-b.invariant (c.has_streams.ensures.0 c.if-not-has_streams.false)
