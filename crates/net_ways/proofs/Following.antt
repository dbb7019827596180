-- Where a packet goes on from a node, it never goes back by its port of arrival.
use Rattle.std.proofs.Common.{◌≡◌, ◌≢◌, ◌==◌, ℕ, ◌*◌, ◌<◌, Bool, true, false, List, [], ◌∷◌, length, refl, sym, ◌∙◌, subst, arith, eq-eqb, if◌then◌else◌}
use Rattle.std.specs.Prelude.{Option, Some, None, not, ◌&&◌, nat_lt}
use Rattle.std.specs.Option.{option_and_then, option_map_or}
use Rattle.std.specs.List.{fold}
use Rattle.std.proofs.lemmas.Bool.{false≢true}
use Rattle.chdr_packets.specs.declared.packet.Body.{Body}
use Rattle.chdr_packets.specs.declared.packet.Body.TheVariants as body
use Rattle.chdr_packets.specs.declared.packet.Packet.{Packet}
use Rattle.chdr_words.specs.declared.epid.Epid.{Epid}
use Rattle.chdr_words.specs.declared.management.Management.{Management}
use Rattle.chdr_words.specs.declared.management.MgmtOp.{MgmtOp}
use Rattle.chdr_words.specs.Operation.{operation_of}
use Rattle.net_nodes.specs.Perform.{Work, effect, exit_by, first_hop, has_link, last_hop, operated, performed, without_first, work_of}
use Rattle.net_nodes.specs.Table.{with_exit}
use Rattle.chdr_words.specs.declared.operation.Operation.{Operation}
use Rattle.chdr_words.specs.declared.operation.Operation.TheVariants as op
use Rattle.net_nodes.specs.declared.site.Done.{Done}
use Rattle.net_nodes.specs.declared.site.Done.TheVariants.{Forward, Return, NoSuchPort, Dead}
use Rattle.net_nodes.specs.declared.site.Site.{Site}
use Rattle.net_nodes.specs.declared.table.Place.{Place}
use Rattle.net_topology.specs.Leads.{sent_on, turned_to}
use Rattle.net_topology.specs.Links.{end_of, end_port, link_at}
use Rattle.net_topology.specs.Ranks.{MayFollow}
use Rattle.net_topology.specs.Tree.{IsTree, ports_of}
use Rattle.net_topology.specs.declared.plan.NodePlan.{NodePlan}
use Rattle.net_topology.specs.declared.plan.NodePlan.TheVariants.{Crossbar, Adapter, Host, Endpoint}
use Rattle.net_topology.specs.declared.plan.Plan.{Plan}
use Rattle.net_topology.proofs.Laws.{links_join_ports, other_ports_lead_on}
use Rattle.net_machine.specs.Nodes.{exits_of, is_switch, planned, site_at, site_by}
use Rattle.net_machine.specs.Passing.{Outcome, Passes, Returns, Arrives, Ends, by_table, goes_on, leaves_by, passing, passing_by, walked_by, walking}
use Rattle.net_machine.specs.Plans.{no_epid}
use Rattle.net_machine.specs.State.{Node, node_in}
use Rattle.net_ways.specs.Clear.{Follows, OutcomesFollow}

-- ---- by the table

turned-some : (tree : Plan) (d port e : ℕ) → turned_to tree d port ≡ Some e → (port ≢ end_port tree.links d) × (link_at tree.links (end_of tree.links d) port ≡ Some e)
turned-some tree d port e =
    elim (port == end_port tree.links d) as (λ b. (port == end_port tree.links d) ≡ b → (if b then None else link_at tree.links (end_of tree.links d) port) ≡ Some e → (port ≢ end_port tree.links d) × (link_at tree.links (end_of tree.links d) port ≡ Some e)) [
      | true ↦ λ t h. let z : ◌≡◌ {A = Option ℕ} None (Some e) = h in cc
      | false ↦ λ f h. ((λ same. false≢true (sym f ∙ eq-eqb port (end_port tree.links d) same)), h)
    ] refl

chosen-follows : (tree : Plan) (d e : ℕ) (exit : Option ℕ) → option_and_then (turned_to tree d) exit ≡ Some e → MayFollow tree.links d e
chosen-follows tree d e None h = let z : ◌≡◌ {A = Option ℕ} None (Some e) = h in cc
chosen-follows tree d e (Some port) h = let t = turned-some tree d port e h in other_ports_lead_on tree d e port t.0 t.1

table-follows : (tree : Plan) (d e : ℕ) (b : Bool) (exit : Option ℕ) → (if b then option_and_then (turned_to tree d) exit else None) ≡ Some e → MayFollow tree.links d e
table-follows tree d e true exit h = chosen-follows tree d e exit h
table-follows tree d e false exit h = let z : ◌≡◌ {A = Option ℕ} None (Some e) = h in cc

over-follows : (tree : Plan) (d : ℕ) (p : Packet) (o : Option ℕ) → ((e : ℕ) → o ≡ Some e → MayFollow tree.links d e) →
    Follows tree d (option_map_or (λ (e : ℕ). Passes e p) o Ends)
over-follows tree d p None each = tt
over-follows tree d p (Some e) each = each e refl

goes-follows : (tree : Plan) (nodes : List Node) (d : ℕ) (p : Packet) → Follows tree d (goes_on tree nodes d p).outcome
goes-follows tree nodes d p = by_sort (is_switch tree (end_of tree.links d))
  where
    by_sort : (b : Bool) → Follows tree d (if b then by_table tree nodes d p else Arrives)
    by_sort true = over-follows tree d p (sent_on tree (exits_of nodes) p.dst d)
        (λ e h. table-follows tree d e (is_switch tree (end_of tree.links d)) (exits_of nodes (end_of tree.links d) p.dst) h)
    by_sort false = tt

-- ---- by a hop

-- an exit by a port isn't that of the arrival
abbrev Turns : ℕ → Done → Type 0
Turns arrival (Forward port) = port ≢ arrival
Turns arrival Return = Unit {0}
Turns arrival (NoSuchPort port) = Unit {0}
Turns arrival Dead = Unit {0}

exit-turns : (site : Site) (port : ℕ) → Turns site.arrival (exit_by site port)
exit-turns site port = by_test (has_link site.linked port) (port == site.arrival) refl
  where
    by_test : (b c : Bool) → (port == site.arrival) ≡ c → Turns site.arrival (if b && not c then Forward port else NoSuchPort port)
    by_test true true is = tt
    by_test true false is = λ same. false≢true (sym is ∙ eq-eqb port site.arrival same)
    by_test false c is = tt

effect-turns : (site : Site) (src : Epid) (work : Work) (o : Operation) → Turns site.arrival work.exit → Turns site.arrival (effect site src work o).exit
effect-turns site src work op.Nop h = h
effect-turns site src work op.Advertise h = h
effect-turns site src work (op.SelectDest port) h = exit-turns site port
effect-turns site src work op.Return h = tt
effect-turns site src work op.InfoReq h = h
effect-turns site src work (op.InfoResp info) h = h
effect-turns site src work (op.CfgWrite cfg) h = by_port (nat_lt cfg.value site.ports) (with_exit work.table (record { 0 = cfg.addr }) cfg.value)
  where
    by_port : (b : Bool) (table : List Place) → Turns site.arrival (if b then record work { table = table } else work).exit
    by_port true table = h
    by_port false table = h
effect-turns site src work (op.CfgRead addr) h = h
effect-turns site src work (op.CfgReadResp cfg) h = h
effect-turns site src work (op.Other code) h = h

hop-turns : (site : Site) (src : Epid) (work : Work) (hop : List MgmtOp) → Turns site.arrival work.exit → Turns site.arrival (fold (operated site src) work hop).exit
hop-turns site src work [] h = h
hop-turns site src work (word ∷ hop) h = hop-turns site src (operated site src work word) hop (effect-turns site src work (operation_of word) h)

arrival-by : (tree : Plan) (x port : ℕ) (node : Option NodePlan) → port < option_map_or ports_of node 0 →
    (option_map_or (site_by tree x port) node (site_by tree x port (Host no_epid))).arrival ≡ port
arrival-by tree x port None h = absurd (omega (arith, h))
arrival-by tree x port (Some (Crossbar ports)) h = refl
arrival-by tree x port (Some Adapter) h = refl
arrival-by tree x port (Some (Host epid)) h = omega (arith, h)
arrival-by tree x port (Some (Endpoint epid bank)) h = omega (arith, h)

leaves-follows : (tree : Plan) (is : IsTree tree) (d : ℕ) → d < 2 * length tree.links → (p : Packet) (m : Management) (exit : Done) →
    Turns (end_port tree.links d) exit → Follows tree d (leaves_by tree (end_of tree.links d) p m exit)
leaves-follows tree is d there p m (Forward port) turns =
    over-follows tree d (walking p m) (link_at tree.links (end_of tree.links d) port) (λ e h. other_ports_lead_on tree d e port turns h)
leaves-follows tree is d there p m Return turns = tt
leaves-follows tree is d there p m (NoSuchPort port) turns = tt
leaves-follows tree is d there p m Dead turns = tt

walked-follows : (tree : Plan) (is : IsTree tree) (nodes : List Node) (d : ℕ) → d < 2 * length tree.links → (p : Packet) (m : Management) →
    Follows tree d (walked_by tree nodes d p m).outcome
walked-follows tree is nodes d there p m =
    let x = end_of tree.links d in
    let site = site_at tree x (end_port tree.links d) in
    let table = (node_in nodes x).table in
    let arrival : site.arrival ≡ end_port tree.links d = arrival-by tree x (end_port tree.links d) (planned tree x) (links_join_ports tree is d there).3 in
    let turns : Turns site.arrival (performed site table m).exit = hop-turns site m.src (work_of table Dead (last_hop m)) (first_hop m) tt in
    leaves-follows tree is d there p (without_first m (performed site table m).last) (performed site table m).exit
    (subst (λ a. Turns a (performed site table m).exit) arrival turns)

-- ---- whatever the packet is

passing-by_follows : (tree : Plan) (is : IsTree tree) (nodes : List Node) (d : ℕ) → d < 2 * length tree.links → (p : Packet) (b : Body) →
    Follows tree d (passing_by tree nodes d p b).outcome
passing-by_follows tree is nodes d there p (body.Samples time payload) = goes-follows tree nodes d p
passing-by_follows tree is nodes d there p (body.Status status) = goes-follows tree nodes d p
passing-by_follows tree is nodes d there p (body.Command c) = goes-follows tree nodes d p
passing-by_follows tree is nodes d there p (body.Control control) = goes-follows tree nodes d p
passing-by_follows tree is nodes d there p (body.Management m) = by_epid (p.dst.0 == 0) (nat_lt (length m.hops) 2)
  where
    by_epid : (b c : Bool) → Follows tree d (if b
        then (if c then record { outcome = Ends; nodes = nodes } else walked_by tree nodes d p m)
        else goes_on tree nodes d p).outcome
    by_epid true true = tt
    by_epid true false = walked-follows tree is nodes d there p m
    by_epid false c = goes-follows tree nodes d p

pub passing-follows : OutcomesFollow
passing-follows tree is nodes d there p = passing-by_follows tree is nodes d there p p.body
