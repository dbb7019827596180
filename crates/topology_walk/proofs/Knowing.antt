-- The ways to found nodes, and to what is behind their ports.
use Rattle.std.proofs.Common.{◌≡◌, ◌≢◌, ℕ, ◌*◌, ◌/◌, ◌%◌, ◌<◌, ◌≤◌, ◌⊎◌, inl, inr, Bool, true, false, List, [], ◌∷◌, ◌++◌, length, map, refl, sym, ◌∙◌, ap, subst, arith, eq-eqb, if◌then◌else◌}
use Rattle.std.specs.Prelude.{Option, Some, None, ◌==◌, ◌&&◌, not}
use Rattle.std.specs.List.{AllByRecursion}
use Rattle.std.specs.Option.{option_map_or}
use Rattle.std.proofs.lemmas.Bool.{both_ways, cases_lt, ne_eqb}
use Rattle.std.proofs.lemmas.List.{map-append}
use Rattle.std.proofs.lemmas.Option.{slice_get_past}
use Rattle.net_topology.specs.Links.{IsWay, NeverTurns, Walks, back_of, end_of, end_port, link_at, link_of, start_of, start_port}
use Rattle.net_topology.specs.Ranks.{MayFollow}
use Rattle.net_topology.specs.Tree.{FitsPlan, IsTree, port_count, ports_of}
use Rattle.net_topology.specs.declared.plan.LinkPlan.{LinkPlan}
use Rattle.net_topology.specs.declared.plan.NodePlan.{NodePlan}
use Rattle.net_topology.specs.declared.plan.NodePlan.TheVariants.{Crossbar, Adapter, Host, Endpoint}
use Rattle.net_topology.specs.declared.plan.Plan.{Plan}
use Rattle.net_topology.proofs.Laws.{links_join_ports, links_leave_by_ports, other_ports_lead_on, walks_are_ways, ways_are_unique, ways_never_turn}
use Rattle.net_machine.specs.Nodes.{is_host, is_host_at, planned}
use Rattle.net_walks.specs.Ways.{last_of}
use Rattle.net_walks.proofs.Laws.{ports_are_few}
use Rattle.walk_books.specs.declared.found.FoundNode.{FoundNode}
use Rattle.topology_walk.specs.Nodes.{found_over, is_arrival}
use Rattle.topology_walk.specs.Probes.{ports_to}
use Rattle.topology_walk.specs.Walks.{IsKnown, LeadsBehind, found_along}

-- ---- walks

pub last-ends : (links : List LinkPlan) (k a b d : ℕ) (ds : List ℕ) → Walks links k a b (d ∷ ds) → end_of links (last_of d ds) ≡ b
last-ends links k a b d [] walks = walks.2
last-ends links k a b d (e ∷ ds) walks = last-ends links k (end_of links d) b e ds walks.2

pub last-there : (links : List LinkPlan) (k a b d : ℕ) (ds : List ℕ) → Walks links k a b (d ∷ ds) → last_of d ds < 2 * k
last-there links k a b d [] walks = walks.0
last-there links k a b d (e ∷ ds) walks = last-there links k (end_of links d) b e ds walks.2

last-push : (d : ℕ) (ds : List ℕ) (e : ℕ) → last_of d (ds ++ e ∷ []) ≡ e
last-push d [] e = refl
last-push d (f ∷ ds) e = last-push f ds e

walks-on : (links : List LinkPlan) (k a b e : ℕ) (ds : List ℕ) → Walks links k a b ds → e < 2 * k → start_of links e ≡ b → Walks links k a (end_of links e) (ds ++ e ∷ [])
walks-on links k a b e [] walks lt starts = (lt, starts ∙ sym walks, refl)
walks-on links k a b e (d ∷ ds) walks lt starts = (walks.0, walks.1, walks-on links k (end_of links d) b e ds walks.2 lt starts)

turns-not : (d : ℕ) (ds : List ℕ) (e : ℕ) → NeverTurns (d ∷ ds) → e ≢ back_of (last_of d ds) → NeverTurns (d ∷ ds ++ e ∷ [])
turns-not d [] e never other = (other, tt)
turns-not d (f ∷ ds) e never other = (never.0, turns-not f ds e never.1 other)

-- a way goes on over a link that leaves its last node, and isn't the way back
way-on : (tree : Plan) → IsTree tree → (x y d e : ℕ) (ds : List ℕ) → IsWay tree.links x y (d ∷ ds) → MayFollow tree.links (last_of d ds) e →
    IsWay tree.links x (end_of tree.links e) (d ∷ ds ++ e ∷ [])
way-on tree is x y d e ds way may =
    let n = length tree.links in
    walks_are_ways tree is x (end_of tree.links e) (d ∷ ds ++ e ∷ [])
    (walks-on tree.links n x y e (d ∷ ds) way.0 may.there (may.starts ∙ last-ends tree.links n x y d ds way.0))
    (turns-not d ds e (ways_never_turn tree x y (d ∷ ds) way) may.onward)

-- no link joins a node to itself
pub no-self : (tree : Plan) → IsTree tree → (d : ℕ) → d < 2 * length tree.links → start_of tree.links d ≢ end_of tree.links d
no-self tree is d lt = by_side (d % 2 == 0)
  where
    l : LinkPlan
    l = link_of tree.links (d / 2)

    by_side : (b : Bool) → (if b then l.a else l.b) ≡ (if b then l.b else l.a) → ⊥
    by_side true same = (is.links (d / 2) (omega arith)).apart ([], same)
    by_side false same = (is.links (d / 2) (omega arith)).apart ([], sym same)

-- ---- what is behind a further port

-- what isn't the port of arrival is another port than that
pub other-port : (tree : Plan) → IsTree tree → (l port : ℕ) → l < 2 * length tree.links → is_arrival (found_over tree l) port ≡ false → port ≢ end_port tree.links l
other-port tree is l port lt further same = both_ways (is_arrival (found_over tree l) port) further
    ((λ i. not (ne_eqb (start_of tree.links l) (end_of tree.links l) (no-self tree is l lt) i) && (port == end_port tree.links l))
    ∙ eq-eqb port (end_port tree.links l) same)

-- a way to the node behind a port; these are the ports by which a packet leaves the nodes before
pub record LeadsTo (tree : Plan) (x e : ℕ) (ports : List ℕ) : Type 0 where
  pub first : ℕ
  pub rest : List ℕ
  pub way : IsWay tree.links x (end_of tree.links e) (first ∷ rest)
  pub last : last_of first rest ≡ e
  pub along : ports ≡ map (start_port tree.links) (first ∷ rest)

pub leads-along : (tree : Plan) → IsTree tree → (x : ℕ) (f : FoundNode) (way : List ℕ) (port e : ℕ) → IsWay tree.links x f.instance way → f ≡ found_along tree x way →
    is_arrival f port ≡ false → link_at tree.links f.instance port ≡ Some e → LeadsTo tree x e (map (start_port tree.links) way ++ port ∷ [])
leads-along tree is x f [] port e way node further link =
    let leaves = links_leave_by_ports tree e f.instance port link in
    record {
      first = e;
      rest = [];
      way = walks_are_ways tree is x (end_of tree.links e) (e ∷ []) (leaves.2, leaves.0 ∙ sym way.0, refl) tt;
      last = refl;
      along = ap (λ p. p ∷ []) (sym leaves.1);
    }
leads-along tree is x f (d ∷ ds) port e way node further link =
    let leaves = links_leave_by_ports tree e f.instance port link in
    let n = length tree.links in
    let l = last_of d ds in
    let other = other-port tree is l port (last-there tree.links n x f.instance d ds way.0) (ap (λ (g : FoundNode). is_arrival g port) (sym node) ∙ further) in
    let ends : end_of tree.links l ≡ f.instance = last-ends tree.links n x f.instance d ds way.0 in
    let may = other_ports_lead_on tree l e port other (ap (λ y. link_at tree.links y port) ends ∙ link) in
    record {
      first = d;
      rest = ds ++ e ∷ [];
      way = way-on tree is x f.instance d e ds way may;
      last = last-push d ds e;
      along = ap (λ p. map (start_port tree.links) (d ∷ ds) ++ p ∷ []) (sym leaves.1) ∙ sym (map-append (start_port tree.links) (d ∷ ds) (e ∷ []));
    }

pub leads-to : (tree : Plan) → IsTree tree → (x : ℕ) (f : FoundNode) (port e : ℕ) (ports : List ℕ) → LeadsBehind tree x f port ports →
    link_at tree.links f.instance port ≡ Some e → LeadsTo tree x e ports
leads-to tree is x f port e ports leads link =
    subst (λ (ps : List ℕ). LeadsTo tree x e ps) (ap (λ (t : List ℕ). t ++ port ∷ []) (sym leads.known.made) ∙ sym leads.along)
    (leads-along tree is x f leads.known.way port e leads.known.is leads.known.node leads.other link)

pub known-behind : (tree : Plan) → IsTree tree → (x : ℕ) (f : FoundNode) (port e : ℕ) (ports : List ℕ) → LeadsBehind tree x f port ports →
    link_at tree.links f.instance port ≡ Some e → IsKnown tree x (found_over tree e) ports
known-behind tree is x f port e ports leads link =
    let to = leads-to tree is x f port e ports leads link in
    record {
      way = to.first ∷ to.rest;
      is = to.way;
      node = ap (found_over tree) (sym to.last);
      made = to.along;
    }

-- ---- packets

-- the ports on the way are those of the only way
pub ports-same : (tree : Plan) → IsTree tree → (x : ℕ) (f : FoundNode) (port : ℕ) (ports : List ℕ) → LeadsBehind tree x f port ports → ports ≡ ports_to tree x f.instance port
ports-same tree is x f port ports leads =
    leads.along ∙ ap (λ (t : List ℕ). t ++ port ∷ []) (leads.known.made ∙ ap (map (start_port tree.links)) (ways_are_unique tree is x f.instance leads.known.way leads.known.is))

-- ---- the ports of a way

-- numbers of ports
abbrev pub ArePorts : List ℕ → Type 0
ArePorts ports = AllByRecursion (λ port. port < 1024) ports

pub ports-small : (tree : Plan) → IsTree tree → FitsPlan tree → (x y : ℕ) (ds : List ℕ) → Walks tree.links (length tree.links) x y ds → ArePorts (map (start_port tree.links) ds)
ports-small tree is fits x y [] walks = tt
ports-small tree is fits x y (d ∷ ds) walks =
    let joins = (links_join_ports tree is d walks.0).2 in
    let few = ports_are_few tree (start_of tree.links d) fits in
    (omega (arith, joins, few), ports-small tree is fits (end_of tree.links d) y ds walks.2)

pub ports-more : (ports : List ℕ) (port : ℕ) → ArePorts ports → port < 1024 → ArePorts (ports ++ port ∷ [])
ports-more [] port small lt = (lt, tt)
ports-more (p ∷ ports) port small lt = (small.0, ports-more ports port small.1 lt)

-- ---- hosts

-- it is a node of the tree
pub host-there : (tree : Plan) (x : ℕ) → is_host_at tree x ≡ true → x < length tree.nodes
host-there tree x host = by_order (cases_lt x (length tree.nodes))
  where
    by_order : (x < length tree.nodes) ⊎ (length tree.nodes ≤ x) → x < length tree.nodes
    by_order (inl lt) = lt
    by_order (inr past) = let z : ◌≡◌ {A = Bool} false true = ap (λ (o : Option NodePlan). option_map_or is_host o false) (sym (slice_get_past tree.nodes x past)) ∙ host in absurd cc

-- a host has one port
pub host-port : (tree : Plan) (x port : ℕ) → is_host_at tree x ≡ true → port < port_count tree.nodes x → port ≡ 0
host-port tree x port is lt = by_node (planned tree x) is lt
  where
    by_node : (o : Option NodePlan) → option_map_or is_host o false ≡ true → port < option_map_or ports_of o 0 → port ≡ 0
    by_node None h l = omega (arith, l)
    by_node (Some (Crossbar ports)) h l = let z : ◌≡◌ {A = Bool} false true = h in absurd cc
    by_node (Some Adapter) h l = let z : ◌≡◌ {A = Bool} false true = h in absurd cc
    by_node (Some (Host own)) h l = omega (arith, l)
    by_node (Some (Endpoint own bank)) h l = let z : ◌≡◌ {A = Bool} false true = h in absurd cc
