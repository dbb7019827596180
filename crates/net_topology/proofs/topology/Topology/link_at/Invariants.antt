use Rattle.std.proofs.Common.{◌≡◌, ◌*◌, drop}
use Rattle.net_topology.specs.Links.{link_after, link_at}
use Rattle.net_topology.proofs.topology.Topology.link_at.Given as goal

-- the search goes on from this link
abbrev pub invariant-loop-k : goal.invariant-loop-k
invariant-loop-k l = link_after (2 * l.k) (drop l.k l.self.links) l.node l.port ≡ link_at l.self.links l.node l.port
