-- What the hops of a walk do at the nodes to which they come.
use Rattle.std.proofs.Common.{◌≡◌, ◌≢◌, ◌==◌, ℕ, ◌-◌, ◌*◌, ◌^◌, ◌<◌, ◌≤◌, Bool, true, false, List, [], ◌∷◌, ◌++◌, length, refl, ◌∙◌, ap, arith, set, get_or, zero, suc, if◌then◌else◌}
use Rattle.std.specs.Prelude.{Option, Some, None, All, is_some, nat_lt, not, slice_get, ◌&&◌}
use Rattle.std.specs.Int.{bit_at}
use Rattle.std.specs.Option.{option_map_or}
use Rattle.std.proofs.lemmas.Bool.{both_ways, le-ltb, lt-ltb, ne_eqb}
use Rattle.std.proofs.lemmas.List.{set-get_or}
use Rattle.chdr_packets.specs.declared.packet.Packet.{Packet}
use Rattle.chdr_words.specs.Field.{field}
use Rattle.chdr_words.specs.declared.epid.Epid.{Epid}
use Rattle.chdr_words.specs.declared.management.Management.{Management}
use Rattle.chdr_words.specs.declared.management.MgmtOp.{MgmtOp}
use Rattle.net_nodes.specs.Perform.{Work, exit_by, has_link, info_answer, last_hop, performed, without_first, work_of}
use Rattle.net_nodes.specs.Table.{with_exit}
use Rattle.net_nodes.specs.declared.site.Done.{Done}
use Rattle.net_nodes.specs.declared.site.Done.TheVariants.{Forward, Return, NoSuchPort}
use Rattle.net_nodes.specs.declared.site.Site.{Site}
use Rattle.net_nodes.specs.declared.table.Place.{Place}
use Rattle.net_topology.specs.Links.{end_of, end_port, link_at}
use Rattle.net_topology.specs.Ports.{link_bits}
use Rattle.net_topology.specs.Tree.{FitsNode, FitsPlan, IsTree, port_count, ports_of}
use Rattle.net_topology.specs.declared.plan.NodePlan.{NodePlan}
use Rattle.net_topology.specs.declared.plan.NodePlan.TheVariants.{Crossbar, Adapter, Host, Endpoint}
use Rattle.net_topology.specs.declared.plan.Plan.{Plan}
use Rattle.net_topology.proofs.Laws.{bits_tell_links, links_join_ports}
use Rattle.net_machine.specs.Nodes.{planned, site_at, site_by}
use Rattle.net_machine.specs.Passing.{Ends, Passes, Passing, leaves_by, walked_by, walks, with_table}
use Rattle.net_machine.specs.Plans.{no_epid}
use Rattle.net_machine.specs.Queues.{forward_vc, queue_of}
use Rattle.net_machine.specs.State.{Node, State, node_in}
use Rattle.net_lone.specs.Lone.{answering_at, moved_over, passed_so}
use Rattle.net_lone.specs.Stages.{UnderWay, lone}
use Rattle.net_walks.specs.Walks.{advertised_at, collector, information, inquiry, onward, returner, walk, walker}
use Rattle.net_walks.proofs.Nodes.{arrivals}

-- ---- lists of hops

-- the last hop stays as the first one is taken off
last-kept : (src : Epid) (h r : List MgmtOp) (rs : List (List MgmtOp)) →
    without_first (walk src (h ∷ r ∷ rs)) (last_hop (walk src (h ∷ r ∷ rs))) ≡ walk src (r ∷ rs)
last-kept src h r rs =
    let two : length (h ∷ r ∷ rs) - 2 ≡ length rs = omega arith in
    let one : length (h ∷ r ∷ rs) - 1 ≡ length (r ∷ rs) = omega arith in
    (λ i. walk src (set (r ∷ rs) (two i) (get_or (h ∷ r ∷ rs) (one i) [])))
    ∙ ap (λ (hops : List (List MgmtOp)). walk src hops) (set-get_or (r ∷ rs) (length rs) [])

-- ---- the exit of a hop

field-port : (port : ℕ) → port < 2 ^ 10 → field port 9 0 ≡ port
field-port port lt = omega (arith, lt)

-- what a hop onward leaves
onward-leaves : (site : Site) (table : List Place) (src : Epid) (port : ℕ) (rest : List (List MgmtOp)) → port < 2 ^ 10 →
    performed site table (walk src (onward port ∷ rest)) ≡ work_of (with_exit table src site.arrival) (exit_by site port) (last_hop (walk src (onward port ∷ rest)))
onward-leaves site table src port rest lt =
    ap (λ (p : ℕ). work_of (with_exit table src site.arrival) (exit_by site p) (last_hop (walk src (onward port ∷ rest)))) (field-port port lt)

-- what an inquiry does
inquiry-leaves : (site : Site) (table : List Place) (src : Epid) (rest : List (List MgmtOp)) →
    performed site table (walk src (inquiry ∷ rest)) ≡ work_of (with_exit table src site.arrival) Return (last_hop (walk src (inquiry ∷ rest)) ++ info_answer site ∷ [])
inquiry-leaves site table src rest = refl

-- ---- which ports of a node have links

bit-tells : (tree : Plan) (x ports port : ℕ) → port < 32 → port < ports → (b : Bool) → is_some (link_at tree.links x port) ≡ b →
    has_link (link_bits tree.links x ports) port ≡ b
bit-tells tree x ports port small there true is =
    let law = (bits_tell_links tree x ports).1 port there in
    let low : nat_lt port 32 ≡ true = lt-ltb port 32 small in
    let one : bit_at (link_bits tree.links x ports) port ≡ 1 = law.1 is in
    λ i. low i && (one i == 1)
bit-tells tree x ports port small there false is =
    let law = (bits_tell_links tree x ports).1 port there in
    let low : nat_lt port 32 ≡ true = lt-ltb port 32 small in
    let none : (bit_at (link_bits tree.links x ports) port == 1) ≡ false =
    ne_eqb (bit_at (link_bits tree.links x ports) port) 1 (λ one. both_ways (is_some (link_at tree.links x port)) is (law.0 one)) in
    λ i. low i && none i

-- a node of a plan fits, if it is there
abbrev FitsThere : Option NodePlan → Type 0
FitsThere None = Unit {0}
FitsThere (Some node) = FitsNode node

fits-there : (nodes : List NodePlan) (x : ℕ) → All FitsNode nodes → FitsThere (slice_get nodes x)
fits-there [] x all = tt
fits-there (node ∷ nodes) zero all = all zero node (omega arith)
fits-there (node ∷ nodes) (suc x) all = fits-there nodes x (λ i d lt. all (suc i) d (omega (arith, lt)))

-- the bits of a site tell the links of its ports, but for the port of arrival
bits-tell : (tree : Plan) (x arrival port : ℕ) (o : Option NodePlan) → FitsThere o → port < option_map_or ports_of o 0 → arrival < option_map_or ports_of o 0 →
    port ≢ arrival → (b : Bool) → is_some (link_at tree.links x port) ≡ b →
    has_link (option_map_or (site_by tree x arrival) o (site_by tree x arrival (Host no_epid))).linked port ≡ b
bits-tell tree x arrival port None fits there here other b is = absurd (omega (arith, there))
bits-tell tree x arrival port (Some (Crossbar ports)) fits there here other b is =
    let most : ports ≤ 32 = fits.1 in bit-tells tree x ports port (omega (arith, there, most)) there b is
bits-tell tree x arrival port (Some Adapter) fits there here other b is = bit-tells tree x 2 port (omega (arith, there)) there b is
bits-tell tree x arrival port (Some (Host epid)) fits there here other b is = absurd (other (omega (arith, there, here)))
bits-tell tree x arrival port (Some (Endpoint epid bank)) fits there here other b is = absurd (other (omega (arith, there, here)))

-- a packet comes by a port of the node
comes-by-port : (tree : Plan) → IsTree tree → (d : ℕ) → d < 2 * length tree.links → end_port tree.links d < port_count tree.nodes (end_of tree.links d)
comes-by-port tree is d lt = (links_join_ports tree is d lt).3

-- by a port that isn't that of arrival a hop goes on if it has a link, and else there is no such port
exit-is : (tree : Plan) → IsTree tree → FitsPlan tree → (d : ℕ) → d < 2 * length tree.links → (port : ℕ) → port < port_count tree.nodes (end_of tree.links d) →
    port ≢ end_port tree.links d → (b : Bool) → is_some (link_at tree.links (end_of tree.links d) port) ≡ b →
    exit_by (site_at tree (end_of tree.links d) (end_port tree.links d)) port ≡ (if b then Forward port else NoSuchPort port)
exit-is tree is fits d lt port there other b linked = by_link b has
  where
    x : ℕ
    x = end_of tree.links d

    site : Site
    site = site_at tree x (end_port tree.links d)

    has : has_link site.linked port ≡ b
    has = bits-tell tree x (end_port tree.links d) port (planned tree x) (fits-there tree.nodes x fits.nodes) there (comes-by-port tree is d lt) other b linked

    new : (port == site.arrival) ≡ false
    new = ap (λ (a : ℕ). port == a) (arrivals tree d is lt) ∙ ne_eqb port (end_port tree.links d) other

    by_link : (c : Bool) → has_link site.linked port ≡ c → exit_by site port ≡ (if c then Forward port else NoSuchPort port)
    by_link true h = λ i. if h i && not (new i) then Forward port else NoSuchPort port
    by_link false h = λ i. if h i && not (new i) then Forward port else NoSuchPort port

-- ---- a walker at a node

-- what it becomes by this exit, and what the table becomes
abbrev leaves-so : Plan → List Node → ℕ → Packet → Management → Done → List Place → Passing
leaves-so tree nodes x p m exit table = record { outcome = leaves_by tree x p m exit; nodes = with_table nodes x table }

-- it has a hop and the last one, so the hop is performed
walks-there : (tree : Plan) (nodes : List Node) (d : ℕ) (src : Epid) (h r : List MgmtOp) (rs : List (List MgmtOp)) →
    walks tree nodes d (walker src (h ∷ r ∷ rs)) (walk src (h ∷ r ∷ rs)) ≡ walked_by tree nodes d (walker src (h ∷ r ∷ rs)) (walk src (h ∷ r ∷ rs))
walks-there tree nodes d src h r rs =
    ap (λ b. if b then record { outcome = Ends; nodes = nodes } else walked_by tree nodes d (walker src (h ∷ r ∷ rs)) (walk src (h ∷ r ∷ rs)))
    (le-ltb (length (h ∷ r ∷ rs)) 2 (omega arith))

-- a hop onward
onward-at : (w : State) → IsTree w.tree → FitsPlan w.tree → (d : ℕ) → d < 2 * length w.tree.links → (src : Epid) (port : ℕ) (r : List MgmtOp) (rs : List (List MgmtOp)) →
    port < port_count w.tree.nodes (end_of w.tree.links d) → port < 2 ^ 10 → port ≢ end_port w.tree.links d → (b : Bool) →
    is_some (link_at w.tree.links (end_of w.tree.links d) port) ≡ b →
    moved_over w d forward_vc (walker src (onward port ∷ r ∷ rs))
    ≡ passed_so w d forward_vc (walker src (onward port ∷ r ∷ rs)) (leaves-so w.tree w.nodes (end_of w.tree.links d) (walker src (onward port ∷ r ∷ rs)) (walk src (r ∷ rs))
    (if b then Forward port else NoSuchPort port) (with_exit (node_in w.nodes (end_of w.tree.links d)).table src (end_port w.tree.links d)))
onward-at w tree fits d lt src port r rs there small other b linked =
    let x = end_of w.tree.links d in
    let site = site_at w.tree x (end_port w.tree.links d) in
    let table = (node_in w.nodes x).table in
    let p = walker src (onward port ∷ r ∷ rs) in
    let m = walk src (onward port ∷ r ∷ rs) in
    let kept = last-kept src (onward port) r rs in
    let exit = exit-is w.tree tree fits d lt port there other b linked in
    let arrival = arrivals w.tree d tree lt in
    ap (λ (it : Passing). passed_so w d forward_vc p it) (walks-there w.tree w.nodes d src (onward port) r rs)
    ∙ ap (λ (work : Work). passed_so w d forward_vc p (leaves-so w.tree w.nodes x p (without_first m work.last) work.exit work.table)) (onward-leaves site table src port (r ∷ rs) small)
    ∙ (λ i. passed_so w d forward_vc p (leaves-so w.tree w.nodes x p (kept i) (exit i) (with_exit table src (arrival i))))

-- it goes on over a link
pub onward-goes : (w : State) → IsTree w.tree → FitsPlan w.tree → (d : ℕ) → d < 2 * length w.tree.links → (src : Epid) (port e : ℕ) (r : List MgmtOp) (rs : List (List MgmtOp)) →
    port < port_count w.tree.nodes (end_of w.tree.links d) → port < 2 ^ 10 → port ≢ end_port w.tree.links d → link_at w.tree.links (end_of w.tree.links d) port ≡ Some e →
    moved_over w d forward_vc (walker src (onward port ∷ r ∷ rs))
    ≡ lone (record w { nodes = advertised_at w.tree src d w.nodes }) (UnderWay (queue_of e forward_vc) false (walker src (r ∷ rs)))
onward-goes w tree fits d lt src port e r rs there small other link =
    let x = end_of w.tree.links d in
    let p = walker src (onward port ∷ r ∷ rs) in
    onward-at w tree fits d lt src port r rs there small other true (ap (λ (o : Option ℕ). is_some o) link)
    ∙ ap (λ (o : Option ℕ). passed_so w d forward_vc p (record { outcome = option_map_or (λ (l : ℕ). Passes l (walker src (r ∷ rs))) o Ends; nodes = advertised_at w.tree src d w.nodes })) link

-- or comes back, with its other hops
pub onward-returns : (w : State) → IsTree w.tree → FitsPlan w.tree → (d : ℕ) → d < 2 * length w.tree.links → (src : Epid) (port : ℕ) (r : List MgmtOp) (rs : List (List MgmtOp)) →
    port < port_count w.tree.nodes (end_of w.tree.links d) → port < 2 ^ 10 → port ≢ end_port w.tree.links d → link_at w.tree.links (end_of w.tree.links d) port ≡ None →
    moved_over w d forward_vc (walker src (onward port ∷ r ∷ rs))
    ≡ lone (record w { nodes = advertised_at w.tree src d w.nodes })
    (answering_at (record w { nodes = advertised_at w.tree src d w.nodes }) (end_of w.tree.links d) (returner src (r ∷ rs)))
onward-returns w tree fits d lt src port r rs there small other link =
    onward-at w tree fits d lt src port r rs there small other false (ap (λ (o : Option ℕ). is_some o) link)

-- an inquiry comes back with the node's information
pub inquiry-returns : (w : State) → IsTree w.tree → (d : ℕ) → d < 2 * length w.tree.links → (src : Epid) →
    moved_over w d forward_vc (walker src (inquiry ∷ collector ∷ []))
    ≡ lone (record w { nodes = advertised_at w.tree src d w.nodes })
    (answering_at (record w { nodes = advertised_at w.tree src d w.nodes }) (end_of w.tree.links d) (returner src (information w.tree d ∷ [])))
inquiry-returns w tree d lt src =
    let x = end_of w.tree.links d in
    let table = (node_in w.nodes x).table in
    ap (λ (a : ℕ). passed_so w d forward_vc (walker src (inquiry ∷ collector ∷ []))
    (leaves-so w.tree w.nodes x (walker src (inquiry ∷ collector ∷ [])) (walk src (information w.tree d ∷ [])) Return (with_exit table src a))) (arrivals w.tree d tree lt)
