-- Where packets go on, by what nodes are.
use Rattle.std.proofs.Common.{◌≡◌, ℕ, ◌<◌, Bool, true, false, List, [], ◌∷◌, length, refl, sym, ◌∙◌, ap, Option, None, Some}
use Rattle.std.specs.Prelude.{◌==◌, fold, nat_lt, if◌then◌else◌}
use Rattle.std.specs.Option.{option_and_then, option_map_or}
use Rattle.chdr_packets.specs.declared.packet.Body.{Body}
use Rattle.chdr_packets.specs.declared.packet.Body.TheVariants as body
use Rattle.chdr_packets.specs.declared.packet.Packet.{Packet}
use Rattle.chdr_words.specs.Operation.{operation_of}
use Rattle.chdr_words.specs.declared.epid.Epid.{Epid}
use Rattle.chdr_words.specs.declared.management.Management.{Management}
use Rattle.chdr_words.specs.declared.management.MgmtOp.{MgmtOp}
use Rattle.chdr_words.specs.declared.operation.Operation.{Operation}
use Rattle.chdr_words.specs.declared.operation.Operation.TheVariants as op
use Rattle.net_nodes.specs.Perform.{Work, effect, first_hop, last_hop, operated, performed, without_first, work_of}
use Rattle.net_nodes.specs.Table.{exit_of, with_exit}
use Rattle.net_nodes.specs.declared.site.Done.{Done}
use Rattle.net_nodes.specs.declared.site.Done.TheVariants as done
use Rattle.net_nodes.specs.declared.site.Site.{Site}
use Rattle.net_nodes.specs.declared.table.Place.{Place}
use Rattle.net_topology.specs.declared.plan.NodePlan.{NodePlan}
use Rattle.net_topology.specs.declared.plan.NodePlan.TheVariants.{Crossbar, Adapter, Host, Endpoint}
use Rattle.net_topology.specs.declared.plan.Plan.{Plan}
use Rattle.net_machine.specs.Nodes.{exits_of, is_switch, planned, site_at}
use Rattle.net_machine.specs.Conditions.{has_place, has_way}
use Rattle.net_machine.specs.Front.{Front}
use Rattle.net_machine.specs.Passing as machine
use Rattle.net_machine.specs.Passing.{Outcome, Passes, Returns, Arrives, Ends, goes_on, leaves_by, passing, passing_by, walked_by, walking, walks}
use Rattle.net_machine.specs.Queues.{queue_of}
use Rattle.net_machine.specs.Plans.{no_epid}
use Rattle.net_topology.specs.Leads.{has_table, sent_on, turned_to}
use Rattle.net_topology.specs.Links.{end_of, end_port, link_at}
use Rattle.net_machine.specs.State.{Node, node_in}
use Rattle.fabric_nodes.specs.Shapes.{Shape, Ends, leaves_of, shape_at, shape_by}
use Rattle.fabric_events.specs.declared.fabric.Fabric.{Fabric}
use Rattle.fabric_events.specs.Fabrics.{IsSound, present_of}
use Rattle.fabric_lists.specs.SitesView.{shape_seen, sites_of}
use Rattle.fabric_events.proofs.FrontLemmas.{shape_there}
use Rattle.fabric_nodes.specs.Exits.{exit_after, exit_of_hop, walking_of}
use Rattle.fabric_events.specs.Onward.{hop_onward, leaving_over, link_onward}

write-step : (b : Bool) (work : Work) (table : List Place) → (if b then record work { table = table } else work).exit ≡ work.exit
write-step true work table = refl
write-step false work table = refl

-- an operation changes the exit as if it changed nothing else
exit-step : (site : Site) (src : Epid) (work : Work) (o : Operation) → (effect site src work o).exit ≡ exit_after site work.exit o
exit-step site src work op.Nop = refl
exit-step site src work op.Advertise = refl
exit-step site src work (op.SelectDest port) = refl
exit-step site src work op.Return = refl
exit-step site src work op.InfoReq = refl
exit-step site src work (op.InfoResp info) = refl
exit-step site src work (op.CfgWrite cfg) =
    write-step (nat_lt cfg.value site.ports) work (with_exit work.table (record { 0 = cfg.addr }) cfg.value)
exit-step site src work (op.CfgRead addr) = refl
exit-step site src work (op.CfgReadResp cfg) = refl
exit-step site src work (op.Other code) = refl

exits : (site : Site) (src : Epid) (work : Work) (ops : List MgmtOp) →
    (fold (operated site src) work ops).exit ≡ fold (λ exit word. exit_after site exit (operation_of word)) work.exit ops
exits site src work [] = refl
exits site src work (o ∷ ops) =
    exits site src (operated site src work o) ops
    ∙ ap (λ e. fold (λ exit word. exit_after site exit (operation_of word)) e ops) (exit-step site src work (operation_of o))

-- the exit of what is performed is that of the first hop's operations
pub exit_performed : (site : Site) (table : List Place) (m : Management) → (performed site table m).exit ≡ exit_of_hop site (first_hop m)
exit_performed site table m = exits site m.src (work_of table done.Dead (last_hop m)) (first_hop m)

-- at a crossbar and an adapter packets leave by the table
by-shape : (tree : Plan) (x : ℕ) (table : List Place) (dst : Epid) (node : Option NodePlan) → option_map_or has_table node false ≡ true
    → leaves_of (option_map_or (shape_by tree x) node (Ends (record { instance = x; epid = no_epid }))) table dst ≡ exit_of table dst
by-shape tree x table dst None h = cc
by-shape tree x table dst (Some (Crossbar ports)) h = refl
by-shape tree x table dst (Some Adapter) h = refl
by-shape tree x table dst (Some (Host epid)) h = cc
by-shape tree x table dst (Some (Endpoint epid bank)) h = cc

pub leaves_by_table : (tree : Plan) (x : ℕ) (table : List Place) (dst : Epid) → is_switch tree x ≡ true
    → leaves_of (shape_at tree x) table dst ≡ exit_of table dst
leaves_by_table tree x table dst h = by-shape tree x table dst (planned tree x) h

-- where the table has a port, the packet goes on by it
pub by_table : (f : Fabric) (x d port : ℕ) (dst : Epid) (next : Option ℕ) → IsSound f → x ≡ end_of f.wires.links d → x < length f.wires.nodes
    → is_switch f.wires x ≡ true
    → Some port ≡ leaves_of (shape_seen (sites_of f.sites.items).shapes x) (node_in (sites_of f.sites.items).nodes x).table dst
    → next ≡ turned_to f.wires d port → next ≡ sent_on f.wires (exits_of (present_of f).nodes) dst d
by_table f x d port dst next sound ends there switches is leads =
    let nodes = (present_of f).nodes in
    let exit : Some port ≡ exits_of nodes x dst =
    is ∙ ap (λ (s : Shape). leaves_of s (node_in nodes x).table dst) (shape_there f x sound there)
    ∙ leaves_by_table f.wires x (node_in nodes x).table dst switches in
    let here : is_switch f.wires (end_of f.wires.links d) ≡ true = ap (λ y. is_switch f.wires y) (sym ends) ∙ switches in
    leads ∙ ap (λ (o : Option ℕ). option_and_then (turned_to f.wires d) o) exit
    ∙ ap (λ y. option_and_then (turned_to f.wires d) (exits_of nodes y dst)) ends
    ∙ ap (λ b. if b then option_and_then (turned_to f.wires d) (exits_of nodes (end_of f.wires.links d) dst) else None) (sym here)

went : (o : Option ℕ) (p : Packet) → link_onward (option_map_or (λ e. Passes e p) o Ends) ≡ o
went None p = refl
went (Some e) p = refl

-- the link over which a packet goes by the table
tabled : (tree : Plan) (nodes : List Node) (d : ℕ) (p : Packet) (b : Bool) → is_switch tree (end_of tree.links d) ≡ b
    → link_onward (goes_on tree nodes d p).outcome ≡ sent_on tree (exits_of nodes) p.dst d
tabled tree nodes d p true is =
    ap (λ b. link_onward (if b then machine.by_table tree nodes d p else Arrives)) is
    ∙ went (sent_on tree (exits_of nodes) p.dst d) p
tabled tree nodes d p false is =
    ap (λ b. link_onward (if b then machine.by_table tree nodes d p else Arrives)) is
    ∙ sym (ap (λ b. if b then option_and_then (turned_to tree d) (exits_of nodes (end_of tree.links d) p.dst) else None) is)

table-onward : (tree : Plan) (nodes : List Node) (d : ℕ) (p : Packet) → link_onward (goes_on tree nodes d p).outcome ≡ sent_on tree (exits_of nodes) p.dst d
table-onward tree nodes d p = tabled tree nodes d p (is_switch tree (end_of tree.links d)) refl

-- a management packet for an EPID goes by the table too
named : (tree : Plan) (nodes : List Node) (d : ℕ) (p : Packet) (m : Management) (b : Bool) → (if b then Some m else None) ≡ None
    → link_onward (if b then walks tree nodes d p m else goes_on tree nodes d p).outcome ≡ sent_on tree (exits_of nodes) p.dst d
named tree nodes d p m true is = cc
named tree nodes d p m false is = table-onward tree nodes d p

by-body : (tree : Plan) (nodes : List Node) (d : ℕ) (p : Packet) (b : Body) → walking_of p b ≡ None
    → link_onward (passing_by tree nodes d p b).outcome ≡ sent_on tree (exits_of nodes) p.dst d
by-body tree nodes d p (body.Samples time payload) is = table-onward tree nodes d p
by-body tree nodes d p (body.Status status) is = table-onward tree nodes d p
by-body tree nodes d p (body.Command command) is = table-onward tree nodes d p
by-body tree nodes d p (body.Control control) is = table-onward tree nodes d p
by-body tree nodes d p (body.Management m) is = named tree nodes d p m (p.dst.0 == 0) is

pub onward_tabled : (tree : Plan) (nodes : List Node) (d : ℕ) (p : Packet) → walking_of p p.body ≡ None
    → sent_on tree (exits_of nodes) p.dst d ≡ link_onward (passing tree nodes d p).outcome
onward_tabled tree nodes d p is = sym (by-body tree nodes d p p.body is)

leaving : (tree : Plan) (x : ℕ) (p : Packet) (m : Management) (exit : Done) → link_onward (leaves_by tree x p m exit) ≡ leaving_over tree x exit
leaving tree x p m (done.Forward port) = went (link_at tree.links x port) (walking p m)
leaving tree x p m done.Return = refl
leaving tree x p m (done.NoSuchPort port) = refl
leaving tree x p m done.Dead = refl

walked : (tree : Plan) (nodes : List Node) (d : ℕ) (p : Packet) (m : Management) (b : Bool)
    → link_onward (if b then (record { outcome = Ends; nodes = nodes }) else walked_by tree nodes d p m).outcome
    ≡ (if b then None else leaving_over tree (end_of tree.links d) (exit_of_hop (site_at tree (end_of tree.links d) (end_port tree.links d)) (first_hop m)))
walked tree nodes d p m true = refl
walked tree nodes d p m false =
    let x = end_of tree.links d in
    let site = site_at tree x (end_port tree.links d) in
    let work = performed site (node_in nodes x).table m in
    leaving tree x p (without_first m work.last) work.exit ∙ ap (leaving_over tree x) (exit_performed site (node_in nodes x).table m)

sought : (tree : Plan) (nodes : List Node) (d : ℕ) (p : Packet) (n m : Management) (b : Bool) → (if b then Some n else None) ≡ Some m
    → link_onward (if b then walks tree nodes d p n else goes_on tree nodes d p).outcome ≡ hop_onward tree d m
sought tree nodes d p n m true is =
    let same : n ≡ m = cc in
    walked tree nodes d p n (nat_lt (length n.hops) 2) ∙ ap (λ (k : Management). hop_onward tree d k) same
sought tree nodes d p n m false is = cc

by-walk : (tree : Plan) (nodes : List Node) (d : ℕ) (p : Packet) (m : Management) (b : Body) → walking_of p b ≡ Some m
    → link_onward (passing_by tree nodes d p b).outcome ≡ hop_onward tree d m
by-walk tree nodes d p m (body.Samples time payload) is = cc
by-walk tree nodes d p m (body.Status status) is = cc
by-walk tree nodes d p m (body.Command command) is = cc
by-walk tree nodes d p m (body.Control control) is = cc
by-walk tree nodes d p m (body.Management n) is = sought tree nodes d p n m (p.dst.0 == 0) is

pub onward_walked : (tree : Plan) (nodes : List Node) (d : ℕ) (p : Packet) (m : Management) → walking_of p p.body ≡ Some m
    → hop_onward tree d m ≡ link_onward (passing tree nodes d p).outcome
onward_walked tree nodes d p m is = sym (by-walk tree nodes d p m p.body is)

-- there is a way for a packet where the queue of the link over which it goes on has room
way-by : (f : Front) (vc : ℕ) (o : Outcome) → has_way f vc o ≡ option_map_or (λ d. has_place f (queue_of d vc)) (link_onward o) true
way-by f vc (Passes d p) = refl
way-by f vc (Returns p) = refl
way-by f vc Arrives = refl
way-by f vc Ends = refl

pub way_is : (f : Front) (vc : ℕ) (o : Outcome) → has_way f vc o ≡ option_map_or (λ d. has_place f (queue_of d vc)) (link_onward o) true
way_is f vc o = way-by f vc o
