use Rattle.std.proofs.Common.{◌≡◌}
use Rattle.net_topology.specs.Ports.{link_bits}
use Rattle.fabric_nodes.proofs.wires.Wires.link_bits.Given as goal

-- the bits of the ports so far
abbrev pub invariant-loop-port : goal.invariant-loop-port
invariant-loop-port l = l.bits ≡ link_bits l.self.links l.node l.port
