-- What a walk tells of a node that it finds, and by which ports of it others may follow.
use Rattle.std.specs.Prelude.{ℕ, ◌==◌, ◌&&◌, not, Bool, List, map}
use Rattle.std.specs.List.{filter, range_with_len}
use Rattle.std.specs.Option.{option_map_or}
use Rattle.chdr_words.specs.declared.node_info.NodeKind.{NodeKind}
use Rattle.chdr_words.specs.declared.node_info.NodeKind.TheVariants as kinds
use Rattle.net_topology.specs.Links.{end_of, end_port, start_of, start_port}
use Rattle.net_topology.specs.Tree.{port_count}
use Rattle.net_topology.specs.declared.plan.NodePlan.{NodePlan}
use Rattle.net_topology.specs.declared.plan.NodePlan.TheVariants.{Crossbar, Adapter, Host, Endpoint}
use Rattle.net_topology.specs.declared.plan.Plan.{Plan}
use Rattle.net_machine.specs.Nodes.{own_epid, planned}
use Rattle.walk_books.specs.declared.found.FoundNode.{FoundNode}

-- a host and an endpoint tell that they are stream endpoints, an adapter that it is a transport
abbrev pub kind_of : NodePlan → NodeKind
kind_of (Crossbar ports) = kinds.Crossbar
kind_of Adapter = kinds.Transport
kind_of (Host epid) = kinds.Endpoint
kind_of (Endpoint epid bank) = kinds.Endpoint

-- what node x tells
abbrev pub kind_at : Plan → ℕ → NodeKind
kind_at tree x = option_map_or kind_of (planned tree x) (kinds.Other 0)

-- host x, at which a walk begins: it is its own parent
abbrev pub first_found : Plan → ℕ → FoundNode
first_found tree x = record {
  instance = x;
  kind = kind_at tree x;
  ports = port_count tree.nodes x;
  epid = own_epid tree x;
  parent = x;
  parent_port = 0;
  port = 0;
}

-- the node to which a directed link leads from its parent
abbrev pub found_over : Plan → ℕ → FoundNode
found_over tree d = record {
  instance = end_of tree.links d;
  kind = kind_at tree (end_of tree.links d);
  ports = port_count tree.nodes (end_of tree.links d);
  epid = own_epid tree (end_of tree.links d);
  parent = start_of tree.links d;
  parent_port = start_port tree.links d;
  port = end_port tree.links d;
}

-- a node was found by this port; the first one was by none
abbrev pub is_arrival : FoundNode → ℕ → Bool
is_arrival f port = not (f.parent == f.instance) && port == f.port

-- a port of a node
pub record NodePort : Type 0 where
  pub node : ℕ
  pub port : ℕ

abbrev pub port_of : FoundNode → ℕ → NodePort
port_of f port = record { node = f.instance; port = port }

-- the ports of a found node below this one by which others may follow, ascending
abbrev pub ports_below : FoundNode → ℕ → List NodePort
ports_below f n = filter (λ (p : NodePort). not (is_arrival f p.port)) (map (port_of f) (range_with_len 0 n))

-- all of them: each port but that by which it was found
abbrev pub ports_behind : FoundNode → List NodePort
ports_behind f = ports_below f f.ports
