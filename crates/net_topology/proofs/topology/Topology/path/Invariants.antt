use Rattle.std.proofs.Common.{◌≡◌, ◌<◌, ◌++◌, length}
use Rattle.net_topology.specs.Parts.{way_of}
use Rattle.net_topology.proofs.topology.Topology.path.Given as goal

-- what was gathered, and the way from this node on, are the way
abbrev pub invariant-loop-d : goal.invariant-loop-d
invariant-loop-d l = record {
  there : l.node < length l.self.nodes;
  way : l.way ++ way_of l.self.links l.node l.b ≡ way_of l.self.links l.a l.b;
}

-- the rest of the way gets shorter
abbrev pub decreases-loop-d : goal.decreases-loop-d
decreases-loop-d l = length (way_of l.self.links l.node l.b)
