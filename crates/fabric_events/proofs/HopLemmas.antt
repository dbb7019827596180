-- Where a hop leads, by what a node is.
use Rattle.std.proofs.Common.{◌≡◌, ℕ, ◌<◌, Bool, true, false, List, length, refl, sym, ◌∙◌, ap, subst, Option, None, Some, IsTrue, arith}
use Rattle.std.specs.Prelude.{if◌then◌else◌}
use Rattle.std.specs.Option.{option_and_then, option_map_or}
use Rattle.std.proofs.lemmas.Bool.{false≢true}
use Rattle.std.proofs.lemmas.Bool.Decides.{nat_tests}
use Rattle.chdr_packets.specs.declared.packet.Packet.{Packet}
use Rattle.chdr_words.specs.declared.epid.Epid.{Epid}
use Rattle.net_nodes.specs.Table.{exit_of}
use Rattle.net_nodes.specs.declared.table.Place.{Place}
use Rattle.net_topology.specs.Leads.{has_table, sent_on, turned_to}
use Rattle.net_topology.specs.Links.{end_of}
use Rattle.net_topology.specs.declared.plan.NodePlan.{NodePlan}
use Rattle.net_topology.specs.declared.plan.NodePlan.TheVariants.{Crossbar, Adapter, Host, Endpoint}
use Rattle.net_topology.specs.declared.plan.Plan.{Plan}
use Rattle.net_machine.specs.Conditions.{has_way}
use Rattle.net_machine.specs.Front.{Front, queued_at}
use Rattle.net_machine.specs.Nodes.{exits_of, is_switch, planned}
use Rattle.net_machine.specs.Passing.{Outcome, Passes, Arrives, Ends as Gone, by_table, goes_on}
use Rattle.net_machine.specs.Plans.{no_epid}
use Rattle.net_machine.specs.Queues.{queue_of}
use Rattle.net_machine.specs.State.{Node, node_in}
use Rattle.fabric_nodes.specs.Shapes.{Shape, Ends, leaves_of, shape_by}
use Rattle.fabric_events.specs.declared.fabric.Fabric.{Fabric}
use Rattle.fabric_events.specs.Fabrics.{IsSound}
use Rattle.fabric_lists.specs.SitesView.{shape_seen, sites_of}
use Rattle.fabric_events.proofs.FrontLemmas.{node_count, shape_there}

-- a node with a table is left by its entry
by_entry : (tree : Plan) (x : ℕ) (table : List Place) (dst : Epid) (n : Option NodePlan) → option_map_or has_table n false ≡ true
    → leaves_of (option_map_or (shape_by tree x) n (Ends (record { instance = x; epid = no_epid }))) table dst ≡ exit_of table dst
by_entry tree x table dst None h = absurd (false≢true h)
by_entry tree x table dst (Some (Crossbar ports)) h = refl
by_entry tree x table dst (Some Adapter) h = refl
by_entry tree x table dst (Some (Host epid)) h = absurd (false≢true h)
by_entry tree x table dst (Some (Endpoint epid bank)) h = absurd (false≢true h)

-- so the table sends a packet on
pub sent_by : (f : Fabric) (d : ℕ) (dst : Epid) (exit : Option ℕ) → IsSound f → end_of f.wires.links d < length f.wires.nodes
    → is_switch f.wires (end_of f.wires.links d) ≡ true
    → exit ≡ leaves_of (shape_seen (sites_of f.sites.items).shapes (end_of f.wires.links d)) (node_in (sites_of f.sites.items).nodes (end_of f.wires.links d)).table dst
    → option_and_then (turned_to f.wires d) exit ≡ sent_on f.wires (exits_of (sites_of f.sites.items).nodes) dst d
sent_by f d dst exit sound there switch is =
    let x = end_of f.wires.links d in
    let table = (node_in (sites_of f.sites.items).nodes x).table in
    ap (λ (o : Option ℕ). option_and_then (turned_to f.wires d) o)
    (is ∙ ap (λ (s : Shape). leaves_of s table dst) (shape_there f x sound there) ∙ by_entry f.wires x table dst (planned f.wires x) switch)
    ∙ sym (ap (λ (b : Bool). if b then option_and_then (turned_to f.wires d) (exit_of table dst) else None) switch)

-- a packet that passes has a place in the next queue
pub way_place : (f : Front) (vc : ℕ) (outcome : Outcome) (e : ℕ) (packet : Packet) → IsTrue (has_way f vc outcome) → outcome ≡ Passes e packet
    → length (queued_at f (queue_of e vc)) < f.tree.room
way_place f vc outcome e packet way is =
    let here = subst (λ (o : Outcome). IsTrue (has_way f vc o)) is way in
    grind (arith, nat_tests)

-- what becomes of a packet at a switch that sends it on over e, and at an end node
pub passes_over : (tree : Plan) (nodes : List Node) (d : ℕ) (packet : Packet) (link : Option ℕ) (e : ℕ) → is_switch tree (end_of tree.links d) ≡ true
    → link ≡ sent_on tree (exits_of nodes) packet.dst d → link ≡ Some e → (goes_on tree nodes d packet).outcome ≡ Passes e packet
passes_over tree nodes d packet link e switch sent is =
    let over : sent_on tree (exits_of nodes) packet.dst d ≡ Some e = sym sent ∙ is in
    ap (λ (b : Bool). if b then by_table tree nodes d packet else Arrives) switch
    ∙ ap (λ (o : Option ℕ). option_map_or (λ n. Passes n packet) o Gone) over

pub ruleset hop_lemmas = (node_count)
