-- What a management packet does at a node, and how it leaves it.
use Rattle.std.proofs.Common.{◌≡◌, ℕ, ◌<◌, ◌≤◌, Bool, true, false, List, length, refl, sym, ◌∙◌, ap, subst, Option, None, Some, arith}
use Rattle.std.specs.Prelude.{nat_lt, if◌then◌else◌}
use Rattle.std.specs.Option.{option_map_or}
use Rattle.std.proofs.lemmas.Bool.Decides.{nat_tests}
use Rattle.block_registers.specs.Registers.{Registers}
use Rattle.chdr_packets.specs.declared.packet.Body.TheVariants as body
use Rattle.chdr_packets.specs.declared.packet.Packet.{Packet}
use Rattle.chdr_words.specs.declared.management.Management.{Management}
use Rattle.net_nodes.specs.Perform.{performed, without_first}
use Rattle.net_nodes.specs.declared.site.Done.{Done}
use Rattle.net_nodes.specs.declared.site.Done.TheVariants as done
use Rattle.net_nodes.specs.declared.site.Site.{Site}
use Rattle.net_topology.specs.Links.{end_of, end_port, link_at}
use Rattle.net_topology.specs.Tree.{port_count, ports_of}
use Rattle.net_topology.specs.declared.plan.NodePlan.{NodePlan}
use Rattle.net_topology.specs.declared.plan.NodePlan.TheVariants.{Crossbar, Adapter, Host, Endpoint}
use Rattle.net_topology.specs.declared.plan.Plan.{Plan}
use Rattle.net_machine.specs.Front.{Queued}
use Rattle.net_machine.specs.Nodes.{planned, site_at}
use Rattle.net_machine.specs.Passing.{Outcome, Passes, Returns, Arrives, Ends as Gone, Passing, leaves_by, walked_by, walking, walks, with_table}
use Rattle.net_machine.specs.Plans.{no_epid}
use Rattle.net_machine.specs.State.{Node, node_in}
use Rattle.net_present.specs.Onward.{Held, enters_over_now, on_present, passes_now}
use Rattle.net_present.specs.Present.{Present}
use Rattle.net_needs.specs.Hopping.{HasWayOn}
use Rattle.fabric_nodes.specs.Shapes.{HasPort, Shape, Ends, shape_by, site_of}
use Rattle.fabric_nodes.proofs.Laws.{shapes_tell}
use Rattle.fabric_lists.specs.SitesView.{on_site, shape_seen, sites_of}
use Rattle.fabric_events.specs.declared.fabric.Fabric.{Fabric}
use Rattle.fabric_events.specs.Fabrics.{IsSound}
use Rattle.fabric_events.specs.Walking.{moves_by}
use Rattle.fabric_events.proofs.FrontLemmas.{shape_there}

-- a packet that leaves by a port goes on over its link, if there is one
goes_over : (x vc : ℕ) (e : Queued) (packet : Packet) (link : Option ℕ) (h : Held)
    → passes_now x vc e (option_map_or (λ d. Passes d packet) link Gone) h ≡ on_present (enters_over_now link vc e.marked packet) h
goes_over x vc e packet None h = refl
goes_over x vc e packet (Some d) h = refl

-- a present beside these registers
abbrev pub with_banks : Present → List (Option Registers) → Held
with_banks p banks = record { present = p; banks = banks }

-- a packet leaves a node as it did before it got its hops
pub same_outcome : (tree : Plan) (x : ℕ) (p : Packet) (m : Management) (exit : Done) → leaves_by tree x (walking p m) m exit ≡ leaves_by tree x p m exit
same_outcome tree x p m (done.Forward port) = refl
same_outcome tree x p m done.Return = refl
same_outcome tree x p m (done.NoSuchPort port) = refl
same_outcome tree x p m done.Dead = refl

same_leaving : (tree : Plan) (x vc : ℕ) (e : Queued) (m : Management) (exit : Done) (h : Held)
    → passes_now x vc (record e { packet = walking e.packet m }) (leaves_by tree x (walking e.packet m) m exit) h
    ≡ passes_now x vc e (leaves_by tree x e.packet m exit) h
same_leaving tree x vc e m (done.Forward port) h =
    goes_over x vc (record e { packet = walking e.packet m }) (walking e.packet m) (link_at tree.links x port) h
    ∙ sym (goes_over x vc e (walking e.packet m) (link_at tree.links x port) h)
same_leaving tree x vc e m done.Return h = refl
same_leaving tree x vc e m (done.NoSuchPort port) h = refl
same_leaving tree x vc e m done.Dead h = refl

-- a packet may come to a node by a port that the node has
has_port : (tree : Plan) (x port : ℕ) (n : Option NodePlan) → port < option_map_or ports_of n 0
    → HasPort (option_map_or (shape_by tree x) n (Ends (record { instance = x; epid = no_epid }))) port
has_port tree x port None there = tt
has_port tree x port (Some (Crossbar ports)) there = there
has_port tree x port (Some Adapter) there = there
has_port tree x port (Some (Host epid)) there = tt
has_port tree x port (Some (Endpoint epid bank)) there = tt

pub port_there : (f : Fabric) (d x port : ℕ) → IsSound f → x ≡ end_of f.wires.links d → port ≡ end_port f.wires.links d
    → end_of f.wires.links d < length f.wires.nodes → end_port f.wires.links d < port_count f.wires.nodes (end_of f.wires.links d)
    → HasPort (shape_seen (sites_of f.sites.items).shapes x) port
port_there f d x port sound at by there within =
    let y = end_of f.wires.links d in
    let here : HasPort (shape_seen (sites_of f.sites.items).shapes y) (end_port f.wires.links d) =
    subst (λ (s : Shape). HasPort s (end_port f.wires.links d)) (sym (shape_there f y sound there))
    (has_port f.wires y (end_port f.wires.links d) (planned f.wires y) within) in
    subst (λ (n : ℕ). HasPort (shape_seen (sites_of f.sites.items).shapes n) port) (sym at)
    (subst (λ (n : ℕ). HasPort (shape_seen (sites_of f.sites.items).shapes y) n) (sym by) here)

-- what a node is there, as the operations of a hop see it
pub site_there : (f : Fabric) (d x port : ℕ) → IsSound f → x ≡ end_of f.wires.links d → port ≡ end_port f.wires.links d
    → end_of f.wires.links d < length f.wires.nodes
    → site_of (shape_seen (sites_of f.sites.items).shapes x) port ≡ site_at f.wires (end_of f.wires.links d) (end_port f.wires.links d)
site_there f d x port sound at by there =
    ap (λ (n : ℕ). site_of (shape_seen (sites_of f.sites.items).shapes n) port) at
    ∙ ap (λ (n : ℕ). site_of (shape_seen (sites_of f.sites.items).shapes (end_of f.wires.links d)) n) by
    ∙ ap (λ (s : Shape). site_of s (end_port f.wires.links d)) (shape_there f (end_of f.wires.links d) sound there)
    ∙ shapes_tell.0 f.wires (end_of f.wires.links d) (end_port f.wires.links d)

-- what became of a packet that was performed at a node with this site
abbrev performed_at : Present → List (Option Registers) → ℕ → Queued → Management → ℕ → Site → Held
performed_at p banks vc e m x site = let work = performed site (node_in p.nodes x).table m in
    passes_now x vc e (leaves_by p.tree x e.packet (without_first m work.last) work.exit)
    (with_banks (record p { nodes = with_table p.nodes x work.table }) banks)

-- a packet is performed at a node, and leaves it
pub moved_by_hop : (p mid new : Present) (banks : List (Option Registers)) (d vc x : ℕ) (site : Site) (e : Queued) (m next : Management) (exit : Done)
    → x ≡ end_of p.tree.links d → site ≡ site_at p.tree (end_of p.tree.links d) (end_port p.tree.links d)
    → next ≡ without_first m (performed site (node_in p.nodes x).table m).last
    → exit ≡ (performed site (node_in p.nodes x).table m).exit
    → mid ≡ record p { nodes = on_site x (λ n. record n { table = (performed site n.table m).table }) p.nodes }
    → passes_now x vc (record e { packet = walking e.packet next }) (leaves_by p.tree x (walking e.packet next) next exit) (with_banks mid banks)
    ≡ with_banks new banks
    → moves_by d vc e (walked_by p.tree p.nodes d e.packet m) (with_banks p banks) ≡ with_banks new banks
moved_by_hop p mid new banks d vc x site e m next exit at is next_is exit_is mid_is goes =
    let work = performed site (node_in p.nodes x).table m in
    ap (λ (n : ℕ). performed_at p banks vc e m n (site_at p.tree (end_of p.tree.links d) (end_port p.tree.links d))) (sym at)
    ∙ ap (λ (s : Site). performed_at p banks vc e m x s) (sym is)
    ∙ ap (λ (k : Management). passes_now x vc e (leaves_by p.tree x e.packet k work.exit)
    (with_banks (record p { nodes = with_table p.nodes x work.table }) banks)) (sym next_is)
    ∙ ap (λ (o : Done). passes_now x vc e (leaves_by p.tree x e.packet next o)
    (with_banks (record p { nodes = with_table p.nodes x work.table }) banks)) (sym exit_is)
    ∙ ap (λ (q : Present). passes_now x vc e (leaves_by p.tree x e.packet next exit) (with_banks q banks)) (sym mid_is)
    ∙ sym (same_leaving p.tree x vc e next exit (with_banks mid banks))
    ∙ goes

-- what nodes hold changes no way
way_beside : (p : Present) (nodes : List Node) (vc : ℕ) (o : Outcome) → HasWayOn p vc o → HasWayOn (record p { nodes = nodes }) vc o
way_beside p nodes vc (Passes d packet) way = record { link = way.link; queue = way.queue; room = way.room }
way_beside p nodes vc (Returns packet) way = tt
way_beside p nodes vc Arrives way = tt
way_beside p nodes vc Gone way = tt

-- where the performed packet has a way, it has one as it leaves
pub way_by_hop : (p mid : Present) (d vc x : ℕ) (site : Site) (packet : Packet) (m next : Management) (exit : Done)
    → x ≡ end_of p.tree.links d → site ≡ site_at p.tree (end_of p.tree.links d) (end_port p.tree.links d)
    → next ≡ without_first m (performed site (node_in p.nodes x).table m).last
    → exit ≡ (performed site (node_in p.nodes x).table m).exit
    → mid ≡ record p { nodes = mid.nodes }
    → HasWayOn p vc (walked_by p.tree p.nodes d packet m).outcome
    → HasWayOn mid vc (leaves_by p.tree x (walking packet next) next exit)
way_by_hop p mid d vc x site packet m next exit at is next_is exit_is mid_is way =
    let work = performed site (node_in p.nodes x).table m in
    let same : (walked_by p.tree p.nodes d packet m).outcome ≡ leaves_by p.tree x (walking packet next) next exit =
    ap (λ (n : ℕ). let w = performed (site_at p.tree (end_of p.tree.links d) (end_port p.tree.links d)) (node_in p.nodes n).table m in
    leaves_by p.tree n packet (without_first m w.last) w.exit) (sym at)
    ∙ ap (λ (s : Site). let w = performed s (node_in p.nodes x).table m in leaves_by p.tree x packet (without_first m w.last) w.exit) (sym is)
    ∙ ap (λ (k : Management). leaves_by p.tree x packet k work.exit) (sym next_is)
    ∙ ap (λ (o : Done). leaves_by p.tree x packet next o) (sym exit_is)
    ∙ sym (same_outcome p.tree x packet next exit) in
    let here : HasWayOn p vc (leaves_by p.tree x (walking packet next) next exit) = subst (λ (o : Outcome). HasWayOn p vc o) same way in
    let there : HasWayOn (record p { nodes = mid.nodes }) vc (leaves_by p.tree x (walking packet next) next exit) =
    way_beside p mid.nodes vc (leaves_by p.tree x (walking packet next) next exit) here in
    subst (λ (q : Present). HasWayOn q vc (leaves_by p.tree x (walking packet next) next exit)) (sym mid_is) there

-- a packet without a hop besides its last ends, and another one is performed
pub walk_ends : (tree : Plan) (nodes : List Node) (d : ℕ) (p : Packet) (m : Management) → length m.hops < 2
    → walks tree nodes d p m ≡ record { outcome = Gone; nodes = nodes }
walk_ends tree nodes d p m few =
    let test : nat_lt (length m.hops) 2 ≡ true = grind (arith, nat_tests) in
    ap (λ (b : Bool). let gone : Passing = record { outcome = Gone; nodes = nodes } in if b then gone else walked_by tree nodes d p m) test

pub walk_performs : (tree : Plan) (nodes : List Node) (d : ℕ) (p : Packet) (m : Management) → 2 ≤ length m.hops
    → walks tree nodes d p m ≡ walked_by tree nodes d p m
walk_performs tree nodes d p m many =
    let test : nat_lt (length m.hops) 2 ≡ false = grind (arith, nat_tests) in
    ap (λ (b : Bool). let gone : Passing = record { outcome = Gone; nodes = nodes } in if b then gone else walked_by tree nodes d p m) test

pub same_management : (m n : Management) → body.Management m ≡ body.Management n → m ≡ n
same_management m n is = cc
