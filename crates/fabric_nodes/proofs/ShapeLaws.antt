-- A shape tells a node's site, and where packets that begin at it go.
use Rattle.std.proofs.Common.{◌≡◌, ℕ, List, false, refl, Option, Some, None}
use Rattle.std.specs.Option.{option_and_then, option_map_or}
use Rattle.chdr_words.specs.declared.epid.Epid.{Epid}
use Rattle.net_nodes.specs.Switch.{end_site}
use Rattle.net_topology.specs.Leads.{has_table}
use Rattle.net_topology.specs.Links.{link_at}
use Rattle.net_topology.specs.declared.plan.NodePlan.{NodePlan}
use Rattle.net_topology.specs.declared.plan.NodePlan.TheVariants.{Crossbar, Adapter, Host, Endpoint}
use Rattle.net_topology.specs.declared.plan.Plan.{Plan}
use Rattle.net_machine.specs.Nodes.{exits_of, planned, site_by}
use Rattle.net_machine.specs.Plans.{no_epid}
use Rattle.net_machine.specs.State.{Node, node_in}
use Rattle.std.specs.Prelude.{if◌then◌else◌}
use Rattle.fabric_nodes.specs.Shapes.{Ends, ShapesTell, leaves_of, shape_by, site_of}

site-by : (tree : Plan) (x port : ℕ) (node : NodePlan) → site_of (shape_by tree x node) port ≡ site_by tree x port node
site-by tree x port (Crossbar ports) = refl
site-by tree x port Adapter = refl
site-by tree x port (Host epid) = refl
site-by tree x port (Endpoint epid bank) = refl

site-of : (tree : Plan) (x port : ℕ) (node : Option NodePlan) →
    site_of (option_map_or (shape_by tree x) node (Ends (record { instance = x; epid = no_epid }))) port
    ≡ option_map_or (site_by tree x port) node (end_site (record { instance = x; epid = no_epid }))
site-of tree x port None = refl
site-of tree x port (Some node) = site-by tree x port node

route-by : (tree : Plan) (nodes : List Node) (x : ℕ) (dst : Epid) (node : NodePlan) →
    (if has_table node then option_and_then (link_at tree.links x) (exits_of nodes x dst) else link_at tree.links x 0)
    ≡ option_and_then (link_at tree.links x) (leaves_of (shape_by tree x node) (node_in nodes x).table dst)
route-by tree nodes x dst (Crossbar ports) = refl
route-by tree nodes x dst Adapter = refl
route-by tree nodes x dst (Host epid) = refl
route-by tree nodes x dst (Endpoint epid bank) = refl

route-of : (tree : Plan) (nodes : List Node) (x : ℕ) (dst : Epid) (node : Option NodePlan) →
    (if option_map_or has_table node false then option_and_then (link_at tree.links x) (exits_of nodes x dst) else link_at tree.links x 0)
    ≡ option_and_then (link_at tree.links x)
    (leaves_of (option_map_or (shape_by tree x) node (Ends (record { instance = x; epid = no_epid }))) (node_in nodes x).table dst)
route-of tree nodes x dst None = refl
route-of tree nodes x dst (Some node) = route-by tree nodes x dst node

pub shapes_tell : ShapesTell
shapes_tell = (
  λ tree x port. site-of tree x port (planned tree x),
  λ tree nodes x dst. route-of tree nodes x dst (planned tree x),
)
