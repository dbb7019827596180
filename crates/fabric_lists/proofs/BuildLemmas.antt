-- Each node of a net as it is built is the machine's.
use Rattle.std.proofs.Common.{◌≡◌, ℕ, ◌<◌, true, false, List, [], ◌∷◌, length, refl, ◌∙◌, ap, subst, Option, None, Some}
use Rattle.std.specs.Prelude.{map, if◌then◌else◌}
use Rattle.std.specs.Option.{option_map_or}
use Rattle.chdr_packets.specs.declared.packet.Packet.{Packet}
use Rattle.net_machine.specs.Begin.{built_node, epids_of, exit_to, place_for}
use Rattle.net_machine.specs.Nodes.{planned}
use Rattle.net_machine.specs.Plans.{no_epid}
use Rattle.net_machine.specs.State.{Node, blank}
use Rattle.net_nodes.specs.declared.table.Place.{Place}
use Rattle.net_topology.specs.Leads.{has_table}
use Rattle.net_topology.specs.Links.{IsWay, start_port}
use Rattle.net_topology.specs.Parts.{way_of}
use Rattle.net_topology.specs.Tree.{IsTree, port_count, ports_of}
use Rattle.net_topology.specs.declared.plan.NodePlan.{NodePlan}
use Rattle.net_topology.specs.declared.plan.NodePlan.TheVariants.{Crossbar, Adapter, Host, Endpoint}
use Rattle.net_topology.specs.declared.plan.Plan.{Plan}
use Rattle.net_topology.proofs.Laws.{links_join_ports, ways_are_there}
use Rattle.fabric_nodes.specs.Shapes.{HasPort, Shape, Ends, empty_table, shape_at, shape_by}
use Rattle.fabric_lists.specs.Routed.{routed_table}

-- the shape of a node that may not be there
abbrev shape_or : Plan → ℕ → Option NodePlan → Shape
shape_or tree x node = option_map_or (shape_by tree x) node (Ends (record { instance = x; epid = no_epid }))

-- node x with routed tables, and with empty ones
routed-by : (tree : Plan) (x : ℕ) (node : Option NodePlan) → record blank { table = routed_table (shape_or tree x node) (exit_to tree x) (epids_of tree) }
    ≡ (if option_map_or has_table node false then record blank { table = map (place_for tree true x) (epids_of tree) } else blank)
routed-by tree x None = refl
routed-by tree x (Some (Crossbar ports)) = refl
routed-by tree x (Some Adapter) = refl
routed-by tree x (Some (Host epid)) = refl
routed-by tree x (Some (Endpoint epid bank)) = refl

empty-by : (tree : Plan) (x : ℕ) (node : Option NodePlan) → record blank { table = empty_table (shape_or tree x node) (epids_of tree) }
    ≡ (if option_map_or has_table node false then record blank { table = map (place_for tree false x) (epids_of tree) } else blank)
empty-by tree x None = refl
empty-by tree x (Some (Crossbar ports)) = refl
empty-by tree x (Some Adapter) = refl
empty-by tree x (Some (Host epid)) = refl
empty-by tree x (Some (Endpoint epid bank)) = refl

pub routed-node : (tree : Plan) (x : ℕ) → record blank { table = routed_table (shape_at tree x) (exit_to tree x) (epids_of tree) } ≡ built_node tree true x
routed-node tree x = routed-by tree x (planned tree x)

pub empty-node : (tree : Plan) (x : ℕ) → record blank { table = empty_table (shape_at tree x) (epids_of tree) } ≡ built_node tree false x
empty-node tree x = empty-by tree x (planned tree x)

-- a node has the ports that its plan counts
port-by : (tree : Plan) (x port : ℕ) (node : Option NodePlan) → port < option_map_or ports_of node 0 → HasPort (shape_or tree x node) port
port-by tree x port None h = tt
port-by tree x port (Some (Crossbar ports)) h = h
port-by tree x port (Some Adapter) h = h
port-by tree x port (Some (Host epid)) h = tt
port-by tree x port (Some (Endpoint epid bank)) h = tt

-- the first link of a way leaves its node by a port that it has
pub way-port : (tree : Plan) (x z d : ℕ) (ds : List ℕ) → IsTree tree → x < length tree.nodes → z < length tree.nodes
    → way_of tree.links x z ≡ d ∷ ds → HasPort (shape_at tree x) (start_port tree.links d)
way-port tree x z d ds is from to way =
    let walk : IsWay tree.links x z (d ∷ ds) = subst (λ (w : List ℕ). IsWay tree.links x z w) way (ways_are_there tree is x z from to) in
    let ends = links_join_ports tree is d walk.0.0 in
    let port : start_port tree.links d < port_count tree.nodes x = subst (λ (n : ℕ). start_port tree.links d < port_count tree.nodes n) walk.0.1 ends.2 in
    port-by tree x (start_port tree.links d) (planned tree x) port

-- a node at which nothing lies
pub nothing-lies : (table : List Place) (pending requests answers : List Packet) (node : Node) → pending ≡ [] → requests ≡ [] → answers ≡ []
    → record blank { table = table } ≡ node → record { table = table; pending = pending; requests = requests; answers = answers } ≡ node
nothing-lies table pending requests answers node p r a is =
    ap (λ (ps : List Packet). let n : Node = record { table = table; pending = ps; requests = requests; answers = answers } in n) p
    ∙ ap (λ (ps : List Packet). let n : Node = record { table = table; pending = []; requests = ps; answers = answers } in n) r
    ∙ ap (λ (ps : List Packet). let n : Node = record { table = table; pending = []; requests = []; answers = ps } in n) a
    ∙ is
