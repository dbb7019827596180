use Rattle.net_topology.specs.Tree.{DistinctBelow}
use Rattle.net_topology.proofs.check.check_epids.Given as goal

-- the nodes before this one have EPIDs of their own
abbrev pub invariant-loop-x : goal.invariant-loop-x
invariant-loop-x l = DistinctBelow l.plan.nodes l.x
