use Rattle.std.proofs.Common.{subst, below_more}
use Rattle.net_topology.specs.Links.{IsJoined}
use Rattle.net_topology.proofs.check.check_joined.Goals as goal

pub loop-x-preserved : goal.loop-x-preserved
loop-x-preserved c =
    below_more _ _ c.loop-x.invariant
    (subst (λ k. IsJoined c.args.plan.now.links k 0 c.loop-x.x) c.len.ensures (c.is_joined.ensures.0 cc))
