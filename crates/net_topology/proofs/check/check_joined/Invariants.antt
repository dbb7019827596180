use Rattle.std.proofs.Common.{◌<◌, ℕ}
use Rattle.net_topology.specs.Tree.{IsReached}
use Rattle.net_topology.proofs.check.check_joined.Given as goal

-- the nodes before this one are joined to node 0
abbrev pub invariant-loop-x : goal.invariant-loop-x
invariant-loop-x l = (y : ℕ) → y < l.x → IsReached l.plan y
