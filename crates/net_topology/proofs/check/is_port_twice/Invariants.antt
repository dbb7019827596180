use Rattle.std.proofs.Common.{◌≡◌, ◌<◌, ℕ, false}
use Rattle.net_topology.specs.Links.{link_of}
use Rattle.net_topology.specs.Tree.{shares_port}
use Rattle.net_topology.proofs.check.is_port_twice.Given as goal

-- no link before this one shares a port
abbrev pub invariant-loop-j : goal.invariant-loop-j
invariant-loop-j l =
    (j : ℕ) → j < l.j → shares_port (link_of l.links j) l.link ≡ false
