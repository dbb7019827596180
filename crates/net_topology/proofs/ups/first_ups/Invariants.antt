use Rattle.net_topology.specs.Mapped.{HasUps}
use Rattle.net_topology.proofs.ups.first_ups.Given as goal

-- the nodes before this one have their links
abbrev pub invariant-loop-x : goal.invariant-loop-x
invariant-loop-x l = HasUps l.plan l.x l.ups
