-- What a plan tells of the nodes that walkers come to.
use Rattle.std.specs.Prelude.{◌≡◌, ℕ, ◌*◌, ◌<◌, ◌≤◌, true, false, length, Some}
use Rattle.net_topology.specs.Links.{end_of, end_port}
use Rattle.net_topology.specs.Tree.{FitsPlan, IsTree, epid_at, port_count}
use Rattle.net_topology.specs.declared.plan.Plan.{Plan}
use Rattle.net_machine.specs.Nodes.{is_host_at, is_switch, own_epid, site_at}

-- A host has its own EPID.
abbrev pub HostsHaveEpids : Type 0
HostsHaveEpids = (tree : Plan) (x : ℕ) → is_host_at tree x ≡ true → epid_at tree.nodes x ≡ Some (own_epid tree x)

-- It isn't 0.
abbrev pub HostsHaveSome : Type 0
HostsHaveSome = (tree : Plan) (x : ℕ) → FitsPlan tree → is_host_at tree x ≡ true → 0 < (own_epid tree x).0

-- A host has no table.
abbrev pub HostsHaveNoTable : Type 0
HostsHaveNoTable = (tree : Plan) (x : ℕ) → is_host_at tree x ≡ true → is_switch tree x ≡ false

-- A node has 32 ports at most.
abbrev pub PortsAreFew : Type 0
PortsAreFew = (tree : Plan) (x : ℕ) → FitsPlan tree → port_count tree.nodes x ≤ 32

-- A node that performs a hop sees the port to which the link came.
abbrev pub SitesTellArrivals : Type 0
SitesTellArrivals = (tree : Plan) (d : ℕ) → IsTree tree → d < 2 * length tree.links
    → (site_at tree (end_of tree.links d) (end_port tree.links d)).arrival ≡ end_port tree.links d
