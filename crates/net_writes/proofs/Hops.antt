-- What the hop of a write does at the node to which it comes.
use Rattle.std.proofs.Common.{◌≡◌, ℕ, ◌*◌, ◌^◌, ◌<◌, ◌≤◌, Bool, true, false, List, [], ◌∷◌, length, refl, sym, ◌∙◌, ap, subst, arith, set, if◌then◌else◌}
use Rattle.std.specs.Prelude.{Option, Some, None}
use Rattle.std.specs.Option.{option_map_or}
use Rattle.std.proofs.lemmas.Bool.{lt-ltb}
use Rattle.std.proofs.lemmas.List.{get_or-set_same, set-set}
use Rattle.chdr_packets.specs.declared.packet.Packet.{Packet}
use Rattle.chdr_words.specs.Cfg.{cfg_of, cfg_payload}
use Rattle.chdr_words.specs.Field.{field}
use Rattle.chdr_words.specs.declared.epid.Epid.{Epid}
use Rattle.chdr_words.specs.declared.management.Management.{Management}
use Rattle.chdr_words.specs.declared.node_info.Cfg.{Cfg}
use Rattle.chdr_words.specs.declared.operation.Operation.TheVariants.{CfgWrite, Return as Back}
use Rattle.net_nodes.specs.Perform.{Work, effect, performed, without_first, work_of}
use Rattle.net_nodes.specs.Table.{with_exit}
use Rattle.net_nodes.specs.declared.site.Done.{Done}
use Rattle.net_nodes.specs.declared.site.Done.TheVariants.{Dead, Return}
use Rattle.net_nodes.specs.declared.site.Site.{Site}
use Rattle.net_nodes.specs.declared.table.Place.{Place}
use Rattle.net_topology.specs.Leads.{has_table}
use Rattle.net_topology.specs.Links.{end_of, end_port}
use Rattle.net_topology.specs.Tree.{FitsPlan, IsTree, port_count, ports_of}
use Rattle.net_topology.specs.declared.plan.NodePlan.{NodePlan}
use Rattle.net_topology.specs.declared.plan.NodePlan.TheVariants.{Crossbar, Adapter, Host, Endpoint}
use Rattle.net_topology.specs.declared.plan.Plan.{Plan}
use Rattle.net_machine.specs.Nodes.{planned, site_at, site_by}
use Rattle.net_machine.specs.Passing.{Passing, leaves_by, with_table}
use Rattle.net_machine.specs.Plans.{no_epid}
use Rattle.net_machine.specs.Queues.{forward_vc}
use Rattle.net_machine.specs.State.{Node, State, blank, node_in}
use Rattle.net_lone.specs.Lone.{answering_at, moved_over, passed_so}
use Rattle.net_lone.specs.Stages.{lone}
use Rattle.net_walks.specs.Walks.{advertised_at, collector, returner, walk, walker}
use Rattle.net_walks.proofs.Laws.{ports_are_few, sites_tell_arrivals}
use Rattle.net_writes.specs.Crossings.{Crossing, crossed_at, crossed_table, writing}
use Rattle.net_writes.specs.Writing.{MayCross}

-- what a walker becomes by this exit, and what the table becomes
abbrev leaves-so : Plan → List Node → ℕ → Packet → Management → Done → List Place → Passing
leaves-so tree nodes x p m exit table = record { outcome = leaves_by tree x p m exit; nodes = with_table nodes x table }

-- a configuration is read as it is spelled
cfg-back : (cfg : Cfg) → cfg.value < 2 ^ 32 → cfg.addr < 2 ^ 16 → cfg_of (cfg_payload cfg) ≡ cfg
cfg-back cfg v a =
    let value : field (cfg_payload cfg) 47 16 ≡ cfg.value = omega (arith, v, a) in
    let addr : field (cfg_payload cfg) 15 0 ≡ cfg.addr = omega (arith, v, a) in
    λ i. record { value = value i; addr = addr i }

-- what a write leaves, if its entries are ports of the node
write-leaves : (site : Site) (table : List Place) (src : Epid) (it : Crossing) → it.a.0 < 2 ^ 16 → it.b.0 < 2 ^ 16 → it.to_a < site.ports → it.to_b < site.ports →
    site.ports ≤ 32 →
    performed site table (walk src (writing it ∷ collector ∷ [])) ≡ work_of (crossed_table (with_exit table src site.arrival) it) Return collector
write-leaves site table src it a b to_a to_b few =
    let cfg_a = cfg-back (record { value = it.to_a; addr = it.a.0 }) (omega (arith, to_a, few)) a in
    let cfg_b = cfg-back (record { value = it.to_b; addr = it.b.0 }) (omega (arith, to_b, few)) b in
    let port_a = lt-ltb it.to_a site.ports to_a in
    let port_b = lt-ltb it.to_b site.ports to_b in
    (λ i. done (cfg_b i) (cfg_a i)) ∙ (λ i. written (port_b i) (port_a i))
  where
    first : Work
    first = work_of (with_exit table src site.arrival) Dead collector

    done : Cfg → Cfg → Work
    done cb ca = effect site src (effect site src (effect site src first (CfgWrite cb)) (CfgWrite ca)) Back

    entered : Work → Epid → ℕ → Bool → Work
    entered work epid port b = if b then record work { table = with_exit work.table epid port } else work

    written : Bool → Bool → Work
    written b c = record (entered (entered first it.b it.to_b b) it.a it.to_a c) { exit = Return }

-- a crossbar and an adapter have the ports that their sites tell
ports-by : (tree : Plan) (x port : ℕ) (o : Option NodePlan) → option_map_or has_table o false ≡ true →
    (option_map_or (site_by tree x port) o (site_by tree x port (Host no_epid))).ports ≡ option_map_or ports_of o 0
ports-by tree x port None is = let z : ◌≡◌ {A = Bool} false true = is in absurd cc
ports-by tree x port (Some (Crossbar ports)) is = refl
ports-by tree x port (Some Adapter) is = refl
ports-by tree x port (Some (Host epid)) is = let z : ◌≡◌ {A = Bool} false true = is in absurd cc
ports-by tree x port (Some (Endpoint epid bank)) is = let z : ◌≡◌ {A = Bool} false true = is in absurd cc

-- the entries at a node that has the source's
crossed-once : (tree : Plan) (src : Epid) (d : ℕ) (it : Crossing) (nodes : List Node) → end_of tree.links d < length nodes →
    with_table nodes (end_of tree.links d) (crossed_table (with_exit (node_in nodes (end_of tree.links d)).table src (end_port tree.links d)) it)
    ≡ crossed_at (end_of tree.links d) it (advertised_at tree src d nodes)
crossed-once tree src d it nodes lt =
    let here : node_in (advertised_at tree src d nodes) x ≡ left = get_or-set_same nodes x left blank lt in
    sym ((λ i. set (advertised_at tree src d nodes) x (record (here i) { table = crossed_table (here i).table it }))
    ∙ set-set nodes x left (record left { table = crossed_table left.table it }))
  where
    x : ℕ
    x = end_of tree.links d

    left : Node
    left = record (node_in nodes x) { table = with_exit (node_in nodes x).table src (end_port tree.links d) }

-- a write comes back with one hop, and leaves the entries
pub write-returns : (w : State) → IsTree w.tree → FitsPlan w.tree → (d : ℕ) → d < 2 * length w.tree.links → end_of w.tree.links d < length w.nodes → (src : Epid) (it : Crossing) →
    MayCross w.tree src d it →
    moved_over w d forward_vc (walker src (writing it ∷ collector ∷ []))
    ≡ lone (record w { nodes = crossed_at (end_of w.tree.links d) it (advertised_at w.tree src d w.nodes) })
    (answering_at (record w { nodes = crossed_at (end_of w.tree.links d) it (advertised_at w.tree src d w.nodes) }) (end_of w.tree.links d) (returner src (collector ∷ [])))
write-returns w tree fits d lt here src it may =
    let x = end_of w.tree.links d in
    let site = site_at w.tree x (end_port w.tree.links d) in
    let table = (node_in w.nodes x).table in
    let p = walker src (writing it ∷ collector ∷ []) in
    let m = walk src (writing it ∷ collector ∷ []) in
    let ports : site.ports ≡ port_count w.tree.nodes x = ports-by w.tree x (end_port w.tree.links d) (planned w.tree x) may.switch in
    let few : port_count w.tree.nodes x ≤ 32 = ports_are_few w.tree x fits in
    let to_a : it.to_a < port_count w.tree.nodes x = may.a.there in
    let to_b : it.to_b < port_count w.tree.nodes x = may.b.there in
    let leaves = write-leaves site table src it may.a.fits may.b.fits (subst (λ n. it.to_a < n) (sym ports) to_a) (subst (λ n. it.to_b < n) (sym ports) to_b)
    (subst (λ n. n ≤ 32) (sym ports) few) in
    ap (λ (work : Work). passed_so w d forward_vc p (leaves-so w.tree w.nodes x p (without_first m work.last) work.exit work.table)) leaves
    ∙ ap (λ (a : ℕ). passed_so w d forward_vc p (leaves-so w.tree w.nodes x p (walk src (collector ∷ [])) Return (crossed_table (with_exit table src a) it))) (sites_tell_arrivals w.tree d tree lt)
    ∙ ap (λ (nodes : List Node). lone (record w { nodes = nodes }) (answering_at (record w { nodes = nodes }) x (returner src (collector ∷ [])))) (crossed-once w.tree src d it w.nodes here)
