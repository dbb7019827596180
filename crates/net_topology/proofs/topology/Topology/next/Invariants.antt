use Rattle.std.proofs.Common.{◌≡◌, ◌≢◌, ◌<◌, length}
use Rattle.net_topology.specs.Next.{next_of}
use Rattle.net_topology.specs.Parts.{way_of}
use Rattle.net_topology.proofs.topology.Topology.next.Given as goal

-- the way from a begins alike to b and to this node, which isn't a
abbrev pub invariant-loop-up : goal.invariant-loop-up
invariant-loop-up l = record {
  there : l.node < length l.self.nodes;
  apart : l.a ≢ l.node;
  alike : next_of l.self.links l.a l.b ≡ next_of l.self.links l.a l.node;
}

-- the way to node 0 gets shorter
abbrev pub decreases-loop-up : goal.decreases-loop-up
decreases-loop-up l = length (way_of l.self.links l.node 0)
