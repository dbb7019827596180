-- What a node is, without what lies at it: how the operations of a hop see it, and where packets leave it.
use Rattle.std.specs.Prelude.{ℕ, ◌<◌, ◌≡◌, List, [], map, Option, Some}
use Rattle.std.specs.Option.{option_and_then, option_map_or}
use Rattle.chdr_words.specs.declared.epid.Epid.{Epid}
use Rattle.chdr_words.specs.declared.node_info.NodeKind.{NodeKind}
use Rattle.chdr_words.specs.declared.node_info.NodeKind.TheVariants as kinds
use Rattle.net_nodes.specs.Switch.{end_site, switch_site}
use Rattle.net_nodes.specs.Table.{exit_of, no_exit}
use Rattle.net_nodes.specs.declared.end_node.EndNode.{EndNode}
use Rattle.net_nodes.specs.declared.site.Site.{Site}
use Rattle.net_nodes.specs.declared.table.Place.{Place}
use Rattle.net_topology.specs.Ports.{link_bits}
use Rattle.net_topology.specs.Links.{link_at}
use Rattle.net_topology.specs.declared.plan.NodePlan.{NodePlan}
use Rattle.net_topology.specs.declared.plan.NodePlan.TheVariants.{Crossbar, Adapter, Host, Endpoint}
use Rattle.net_topology.specs.declared.plan.Plan.{Plan}
use Rattle.net_machine.specs.Nodes.{planned, route_from, site_at}
use Rattle.net_machine.specs.Plans.{no_epid}
use Rattle.net_machine.specs.State.{Node, node_in}

pub data Shape : Type 0 where
  -- a crossbar or an adapter: its kind, its number, its ports and its link bits
  Switches : NodeKind → ℕ → ℕ → ℕ → Shape
  -- a host or an endpoint
  Ends : EndNode → Shape

-- a node as contracts see it: what it is, and its table
pub record NodeSeen : Type 0 where
  pub shape : Shape
  pub table : List Place

-- a node as the operations of a hop see it, where the packet came by this port
abbrev pub site_of : Shape → ℕ → Site
site_of (Switches kind instance ports linked) arrival =
    switch_site kind (record { instance = instance; ports = ports; linked = linked; table = [] }) arrival
site_of (Ends node) arrival = end_site node

-- the port by which packets to an EPID leave: by the table, or by the only port
abbrev pub leaves_of : Shape → List Place → Epid → Option ℕ
leaves_of (Switches kind instance ports linked) table dst = exit_of table dst
leaves_of (Ends node) table dst = Some 0

-- a packet may come by this port; at an end node none is looked at
abbrev pub HasPort : Shape → ℕ → Type 0
HasPort (Switches kind instance ports linked) port = port < ports
HasPort (Ends node) port = Unit {0}

-- a table with a place for each of these EPIDs, where the node has one
abbrev pub empty_table : Shape → List Epid → List Place
empty_table (Switches kind instance ports linked) epids = map no_exit epids
empty_table (Ends node) epids = []

-- a node as it was planned
abbrev pub shape_by : Plan → ℕ → NodePlan → Shape
shape_by tree x (Crossbar ports) = Switches kinds.Crossbar x ports (link_bits tree.links x ports)
shape_by tree x Adapter = Switches kinds.Transport x 2 (link_bits tree.links x 2)
shape_by tree x (Host epid) = Ends (record { instance = x; epid = epid })
shape_by tree x (Endpoint epid bank) = Ends (record { instance = x; epid = epid })

-- node x; one that isn't there is an end node without an EPID
abbrev pub shape_at : Plan → ℕ → Shape
shape_at tree x = option_map_or (shape_by tree x) (planned tree x) (Ends (record { instance = x; epid = no_epid }))

-- a shape tells a node's site, and where packets that begin at it go
abbrev pub ShapesTell : Type 0
ShapesTell = ((tree : Plan) (x port : ℕ) → site_of (shape_at tree x) port ≡ site_at tree x port)
    × ((tree : Plan) (nodes : List Node) (x : ℕ) (dst : Epid) → route_from tree nodes x dst
    ≡ option_and_then (link_at tree.links x) (leaves_of (shape_at tree x) (node_in nodes x).table dst))
