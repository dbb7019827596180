use Rattle.std.proofs.Common.{◌≤◌, ◌+◌}
use Rattle.topology_walk.specs.Nodes.{ports_below}
use Rattle.topology_walk.specs.Walks.{WalksOn}
use Rattle.topology_walk.proofs.walk.look_around.Given as goal

-- the ports so far were looked behind
abbrev pub invariant-loop-port : goal.invariant-loop-port
invariant-loop-port g l = record {
  walks : WalksOn l.fn.net.present.tree l.source.epid l.source.node (ports_below l.node l.port)
      (record { walk = l.fn.walk; net = l.fn.net; banks = g.B.RegisterSlots.slots l.fn.banks })
      (record { walk = l.walk; net = l.net; banks = g.B.RegisterSlots.slots l.banks });
  few : l.walk.found.bare ≤ l.fn.walk.found.bare + l.port;
}
