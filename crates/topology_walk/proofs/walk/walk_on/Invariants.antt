use Rattle.std.proofs.Common.{◌≤◌, ◌*◌, length, take}
use Rattle.std.specs.List.{flat_map}
use Rattle.topology_walk.specs.Nodes.{ports_behind}
use Rattle.topology_walk.specs.Walks.{WalksOn}
use Rattle.topology_walk.proofs.walk.walk_on.Given as goal

-- the ports of the first nodes were looked behind
abbrev pub invariant-loop-index : goal.invariant-loop-index
invariant-loop-index g l = record {
  walks : WalksOn l.fn.net.present.tree l.source.epid l.source.node (flat_map ports_behind (take l.index l.walk.found.nodes))
      (record { walk = l.fn.walk; net = l.fn.net; banks = g.B.RegisterSlots.slots l.fn.banks })
      (record { walk = l.walk; net = l.net; banks = g.B.RegisterSlots.slots l.banks });
  within : l.index ≤ length l.walk.found.nodes;
  few : l.walk.found.bare ≤ 256 * l.index;
}
