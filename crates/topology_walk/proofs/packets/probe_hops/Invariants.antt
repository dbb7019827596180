use Rattle.std.proofs.Common.{◌≡◌, map, take}
use Rattle.net_walks.specs.Walks.{onward}
use Rattle.topology_walk.proofs.packets.probe_hops.Given as goal

abbrev pub invariant-loop-port : goal.invariant-loop-port
invariant-loop-port l = l.hops ≡ map onward (take l.port-index l.ports)
