use Rattle.std.proofs.Common.{◌≢◌, ◌<◌, ℕ, Some}
use Rattle.net_topology.specs.Tree.{epid_at}
use Rattle.net_topology.proofs.check.has_epid_below.Given as goal

-- no node before this one has the EPID
abbrev pub invariant-loop-x : goal.invariant-loop-x
invariant-loop-x l = (y : ℕ) → y < l.x → epid_at l.nodes y ≢ Some l.epid
