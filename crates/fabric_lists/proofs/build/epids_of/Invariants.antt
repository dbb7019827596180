use Rattle.std.proofs.Common.{◌≡◌, take}
use Rattle.std.specs.List.{filter_map}
use Rattle.net_topology.specs.Tree.{epid_of}
use Rattle.fabric_lists.proofs.build.epids_of.Given as goal

-- the EPIDs of the first nodes
abbrev pub invariant-loop-node : goal.invariant-loop-node
invariant-loop-node l = l.epids ≡ filter_map epid_of (take l.node-index l.node-items)
