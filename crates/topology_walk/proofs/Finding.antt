-- Each node is found once, and each port is probed once; so what probes find is what a walk finds in the tree.
use Rattle.std.proofs.Common.{◌≡◌, ℕ, ◌+◌, ◌<◌, ◌≤◌, ◌⊎◌, inl, inr, Bool, true, false, List, [], ◌∷◌, length, map, refl, sym, ◌∙◌, ap, subst, arith, zero, suc, get_or, eq-eqb, if◌then◌else◌}
use Rattle.std.specs.Prelude.{Option, Some, None, ◌==◌, ◌&&◌, not, filter_map, option_map, unwrap_or}
use Rattle.std.specs.List.{AllByRecursion, cons_option, flat_map, range_with_len}
use Rattle.std.proofs.lemmas.Bool.{and_from, cases_lt, eqb-true, ne_eqb}
use Rattle.net_topology.specs.Links.{IsWay, NeverTurns, Walks, end_of, link_at, start_of, start_port}
use Rattle.net_topology.specs.Parts.{way_of}
use Rattle.net_topology.specs.Tree.{IsTree}
use Rattle.net_topology.specs.declared.plan.LinkPlan.{LinkPlan}
use Rattle.net_topology.specs.declared.plan.Plan.{Plan}
use Rattle.net_topology.proofs.Laws.{links_join_ports, links_leave_by_ports, walks_are_ways, ways_are_there, ways_are_unique, ways_never_turn}
use Rattle.net_walks.specs.Ways.{last_of}
use Rattle.topology_walk.specs.Nodes.{NodePort, first_found, found_over, is_arrival, port_of, ports_behind}
use Rattle.topology_walk.specs.Probes.{Probe, finding, is_lost, place_of}
use Rattle.found_nodes.specs.Found.{no_node}
use Rattle.topology_walk.specs.Walks.{found_along}
use Rattle.topology_walk.proofs.Counting.{one_if, tally, tally-filter, tally-flat, tally-map, tally-numbers}
use Rattle.topology_walk.proofs.Knowing.{last-ends, last-there, no-self}
use Rattle.walk_books.specs.declared.found.FoundNode.{FoundNode}

-- ---- the way to the node before

-- a way without its last link
abbrev pub front : ℕ → List ℕ → List ℕ
front d [] = []
front d (e ∷ ds) = d ∷ front e ds

front-walks : (links : List LinkPlan) (k a b d : ℕ) (ds : List ℕ) → Walks links k a b (d ∷ ds) → Walks links k a (start_of links (last_of d ds)) (front d ds)
front-walks links k a b d [] walks = sym walks.1
front-walks links k a b d (e ∷ ds) walks = (walks.0, walks.1, front-walks links k (end_of links d) b e ds walks.2)

front-never : (d : ℕ) (ds : List ℕ) → NeverTurns (d ∷ ds) → NeverTurns (front d ds)
front-never d [] never = tt
front-never d (e ∷ []) never = tt
front-never d (e ∷ f ∷ ds) never = (never.0, front-never e (f ∷ ds) never.1)

pub front-long : (d : ℕ) (ds : List ℕ) → length (front d ds) ≡ length ds
front-long d [] = refl
front-long d (e ∷ ds) = ap (λ n. suc n) (front-long e ds)

pub front-way : (tree : Plan) → IsTree tree → (x y d : ℕ) (ds : List ℕ) → IsWay tree.links x y (d ∷ ds) → IsWay tree.links x (start_of tree.links (last_of d ds)) (front d ds)
front-way tree is x y d ds way =
    walks_are_ways tree is x (start_of tree.links (last_of d ds)) (front d ds) (front-walks tree.links (length tree.links) x y d ds way.0)
    (front-never d ds (ways_never_turn tree x y (d ∷ ds) way))

-- ---- tests

-- a found node is this one
abbrev pub is_node : ℕ → FoundNode → Bool
is_node y f = f.instance == y

-- a port is this one
abbrev pub is_place : ℕ → ℕ → NodePort → Bool
is_place u t p = p.node == u && p.port == t

-- a port is at most once among the further ports of a node, and only of its own
ports-once : (u t : ℕ) (f : FoundNode) → tally (is_place u t) (ports_behind f) ≤ one_if (is_node u f)
ports-once u t f =
    let below = tally-filter (is_place u t) (λ (p : NodePort). not (is_arrival f p.port)) (map (port_of f) (range_with_len 0 f.ports)) in
    let all = tally-map (is_place u t) (port_of f) (range_with_len 0 f.ports) in
    let most = by_node (f.instance == u) (range_with_len 0 f.ports) (tally-numbers t f.ports) in
    omega (arith, below, all, most)
  where
    by_node : (b : Bool) (ks : List ℕ) → tally (λ k. k == t) ks ≤ 1 → tally (λ k. b && k == t) ks ≤ one_if b
    by_node true ks few = few
    by_node false ks few = none ks
      where
        none : (ks : List ℕ) → tally (λ k. false && k == t) ks ≤ 0
        none [] = omega arith
        none (k ∷ ks) = let rest = none ks in omega (arith, rest)

-- ---- known nodes

-- a found node is known
abbrev pub Known : Plan → ℕ → FoundNode → Type 0
Known tree x f = (way : List ℕ) × IsWay tree.links x f.instance way × (f ≡ found_along tree x way)

pub known-all : (tree : Plan) (x : ℕ) (nodes : List FoundNode) → ((k : ℕ) → k < length nodes → Known tree x (get_or nodes k no_node)) → AllByRecursion (Known tree x) nodes
known-all tree x [] each = tt
known-all tree x (f ∷ nodes) each = (each 0 (omega arith), known-all tree x nodes (λ k lt. each (suc k) (omega (arith, lt))))

-- what a probe finds is behind its port
pub record Finds (tree : Plan) (probe : Probe) (f : FoundNode) : Type 0 where
  pub link : ℕ
  pub at : link_at tree.links probe.node probe.port ≡ Some link
  pub over : f ≡ found_over tree link

pub finds-of : (tree : Plan) (probe : Probe) (f : FoundNode) → finding tree probe ≡ Some f → Finds tree probe f
finds-of tree probe f is = by_loss (is_lost probe) (link_at tree.links probe.node probe.port) refl is
  where
    by_loss : (b : Bool) (o : Option ℕ) → link_at tree.links probe.node probe.port ≡ o → (if b then None else option_map (found_over tree) o) ≡ Some f → Finds tree probe f
    by_loss true o at h = let z : ◌≡◌ {A = Option FoundNode} None (Some f) = h in absurd cc
    by_loss false None at h = let z : ◌≡◌ {A = Option FoundNode} None (Some f) = h in absurd cc
    by_loss false (Some e) at h = record {
      link = e;
      at = at;
      over = ap (λ (o : Option FoundNode). unwrap_or o f) (sym h);
    }

-- a known node that a probe finds is behind the last link of its way, and the probe looked behind the port of that
record FoundLast (tree : Plan) (x : ℕ) (probe : Probe) (f : FoundNode) : Type 0 where
  first : ℕ
  rest : List ℕ
  way : IsWay tree.links x f.instance (first ∷ rest)
  node : probe.node ≡ start_of tree.links (last_of first rest)
  port : probe.port ≡ start_port tree.links (last_of first rest)

found-last : (tree : Plan) → IsTree tree → (x : ℕ) (probe : Probe) (f : FoundNode) → finding tree probe ≡ Some f → Known tree x f → FoundLast tree x probe f
found-last tree is x probe f finds known = by_way known.0 known.1 known.2
  where
    it : Finds tree probe f
    it = finds-of tree probe f finds

    by_way : (way : List ℕ) → IsWay tree.links x f.instance way → f ≡ found_along tree x way → FoundLast tree x probe f
    by_way [] way node =
        let leaves = links_leave_by_ports tree it.link probe.node probe.port it.at in
        let same : found_over tree it.link ≡ first_found tree x = sym it.over ∙ node in
        absurd (no-self tree is it.link leaves.2 (ap (λ (g : FoundNode). g.parent) same ∙ sym (ap (λ (g : FoundNode). g.instance) same)))
    by_way (d ∷ ds) way node =
        let leaves = links_leave_by_ports tree it.link probe.node probe.port it.at in
        let same : found_over tree it.link ≡ found_over tree (last_of d ds) = sym it.over ∙ node in
        record {
          first = d;
          rest = ds;
          way = way;
          node = sym leaves.0 ∙ ap (λ (g : FoundNode). g.parent) same;
          port = sym leaves.1 ∙ ap (λ (g : FoundNode). g.parent_port) same;
        }

-- ---- each node once

-- in front of what probes find, if it is known, stand as many probes that pass a test which each that finds this node passes
finds-one : (tree : Plan) → IsTree tree → (x y : ℕ) (q : NodePort → Bool) (probe : Probe) (fs : List FoundNode) (n : ℕ) (o : Option FoundNode) →
    ((f : FoundNode) → FoundLast tree x probe f → f.instance ≡ y → q (place_of probe) ≡ true) → finding tree probe ≡ o →
    AllByRecursion (Known tree x) (cons_option o fs) → tally (is_node y) fs ≤ n → tally (is_node y) (cons_option o fs) ≤ one_if (q (place_of probe)) + n
finds-one tree is x y q probe fs n None at finds known le = omega (arith, le)
finds-one tree is x y q probe fs n (Some f) at finds known le = by_test (f.instance == y) refl
  where
    by_test : (b : Bool) → (f.instance == y) ≡ b → one_if b + tally (is_node y) fs ≤ one_if (q (place_of probe)) + n
    by_test true same =
        let passes : one_if (q (place_of probe)) ≡ 1 = ap one_if (at f (found-last tree is x probe f finds known.0) (eqb-true f.instance y same)) in
        omega (arith, passes, le)
    by_test false other = omega (arith, le)

known-rest : (tree : Plan) (x : ℕ) (o : Option FoundNode) (fs : List FoundNode) → AllByRecursion (Known tree x) (cons_option o fs) → AllByRecursion (Known tree x) fs
known-rest tree x None fs known = known
known-rest tree x (Some f) fs known = known.1

finds-few : (tree : Plan) → IsTree tree → (x y : ℕ) (q : NodePort → Bool) (probes : List Probe) →
    ((probe : Probe) (f : FoundNode) → FoundLast tree x probe f → f.instance ≡ y → q (place_of probe) ≡ true) →
    AllByRecursion (Known tree x) (filter_map (finding tree) probes) → tally (is_node y) (filter_map (finding tree) probes) ≤ tally q (map place_of probes)
finds-few tree is x y q [] at known = omega arith
finds-few tree is x y q (probe ∷ probes) at known =
    finds-one tree is x y q probe (filter_map (finding tree) probes) (tally q (map place_of probes)) (finding tree probe) (at probe) refl known
    (finds-few tree is x y q probes at (known-rest tree x (finding tree probe) (filter_map (finding tree) probes) known))

-- the last link of a way
abbrev last_in : List ℕ → ℕ
last_in [] = 0
last_in (d ∷ ds) = last_of d ds

same-way : (tree : Plan) → IsTree tree → (x y : ℕ) (ds es : List ℕ) → IsWay tree.links x y ds → IsWay tree.links x y es → ds ≡ es
same-way tree is x y ds es a b = ways_are_unique tree is x y ds a ∙ sym (ways_are_unique tree is x y es b)

-- a node behind a last link is found by probes of one port alone
last-place : (tree : Plan) → IsTree tree → (x y d : ℕ) (ds : List ℕ) → IsWay tree.links x y (d ∷ ds) → (probe : Probe) (f : FoundNode) → FoundLast tree x probe f → f.instance ≡ y →
    is_place (start_of tree.links (last_of d ds)) (start_port tree.links (last_of d ds)) (place_of probe) ≡ true
last-place tree is x y d ds way probe f found same =
    let one : last_of found.first found.rest ≡ last_of d ds =
    ap last_in (same-way tree is x y (found.first ∷ found.rest) (d ∷ ds) (subst (λ (z : ℕ). IsWay tree.links x z (found.first ∷ found.rest)) same found.way) way) in
    and_from (probe.node == start_of tree.links (last_of d ds)) (probe.port == start_port tree.links (last_of d ds))
    (eq-eqb probe.node (start_of tree.links (last_of d ds)) (found.node ∙ ap (start_of tree.links) one))
    (eq-eqb probe.port (start_port tree.links (last_of d ds)) (found.port ∙ ap (start_port tree.links) one))

-- nothing finds the host
host-unfound : (tree : Plan) → IsTree tree → (x y : ℕ) → IsWay tree.links x y [] → (probe : Probe) (f : FoundNode) → FoundLast tree x probe f → f.instance ≡ y → ⊥
host-unfound tree is x y way probe f found same =
    let z : ◌≡◌ {A = List ℕ} (found.first ∷ found.rest) [] =
    same-way tree is x y (found.first ∷ found.rest) [] (subst (λ (z : ℕ). IsWay tree.links x z (found.first ∷ found.rest)) same found.way) way in
    absurd cc

no-place : (ps : List NodePort) → tally (λ (p : NodePort). false) ps ≡ 0
no-place [] = refl
no-place (p ∷ ps) = let rest = no-place ps in omega (arith, rest)

-- what probes find, and the host before it
pub record Walked (tree : Plan) (x : ℕ) (probes : List Probe) (nodes : List FoundNode) : Type 0 where
  pub asked : map place_of probes ≡ flat_map ports_behind nodes
  pub found : nodes ≡ first_found tree x ∷ filter_map (finding tree) probes
  pub known : AllByRecursion (Known tree x) nodes

found-count : (tree : Plan) (x y : ℕ) (probes : List Probe) (nodes : List FoundNode) → Walked tree x probes nodes →
    tally (is_node y) nodes ≡ one_if (x == y) + tally (is_node y) (filter_map (finding tree) probes)
found-count tree x y probes nodes walked = ap (tally (is_node y)) walked.found

found-known : (tree : Plan) (x : ℕ) (probes : List Probe) (nodes : List FoundNode) → Walked tree x probes nodes → AllByRecursion (Known tree x) (filter_map (finding tree) probes)
found-known tree x probes nodes walked = (subst (λ (fs : List FoundNode). AllByRecursion (Known tree x) fs) walked.found walked.known).1

places-few : (tree : Plan) (x u t : ℕ) (probes : List Probe) (nodes : List FoundNode) → Walked tree x probes nodes → tally (is_place u t) (map place_of probes) ≤ tally (is_node u) nodes
places-few tree x u t probes nodes walked =
    subst (λ (ps : List NodePort). tally (is_place u t) ps ≤ tally (is_node u) nodes) (sym walked.asked) (tally-flat (is_place u t) (is_node u) ports_behind nodes (ports-once u t))

one-most : (b : Bool) → one_if b ≤ 1
one-most true = omega arith
one-most false = omega arith

-- no way leads round to the host
not-host : (tree : Plan) → IsTree tree → (x y d : ℕ) (ds : List ℕ) → IsWay tree.links x y (d ∷ ds) → x ≡ y → ⊥
not-host tree is x y d ds way same =
    let z : ◌≡◌ {A = List ℕ} [] (d ∷ ds) = same-way tree is x y [] (d ∷ ds) (same, (tt, tt)) way in
    absurd cc

pub node-once : (tree : Plan) → IsTree tree → (x : ℕ) (probes : List Probe) (nodes : List FoundNode) → Walked tree x probes nodes →
    (n y : ℕ) (way : List ℕ) → IsWay tree.links x y way → length way ≤ n → tally (is_node y) nodes ≤ 1
node-once tree is x probes nodes walked n y [] way le =
    let all = found-count tree x y probes nodes walked in
    let few = finds-few tree is x y (λ (p : NodePort). false) probes (λ probe f found same. absurd (host-unfound tree is x y way probe f found same)) (found-known tree x probes nodes walked) in
    let none = no-place (map place_of probes) in
    let one = one-most (x == y) in
    omega (arith, all, few, none, one)
node-once tree is x probes nodes walked zero y (d ∷ ds) way le = absurd (omega (arith, le))
node-once tree is x probes nodes walked (suc n) y (d ∷ ds) way le =
    let l = last_of d ds in
    let u = start_of tree.links l in
    let t = start_port tree.links l in
    let all = found-count tree x y probes nodes walked in
    let few = finds-few tree is x y (is_place u t) probes (last-place tree is x y d ds way) (found-known tree x probes nodes walked) in
    let places = places-few tree x u t probes nodes walked in
    let before = node-once tree is x probes nodes walked n u (front d ds) (front-way tree is x y d ds way) (omega (arith, le, front-long d ds)) in
    let other : one_if (x == y) ≡ 0 = ap one_if (ne_eqb x y (λ same. not-host tree is x y d ds way same)) in
    omega (arith, all, few, places, before, other)

known-there : (tree : Plan) → IsTree tree → (x : ℕ) (f : FoundNode) → x < length tree.nodes → Known tree x f → f.instance < length tree.nodes
known-there tree is x f there known = by_way known.0 known.1
  where
    by_way : (way : List ℕ) → IsWay tree.links x f.instance way → f.instance < length tree.nodes
    by_way [] way = subst (λ y. y < length tree.nodes) way.0 there
    by_way (d ∷ ds) way =
        let l = last_of d ds in
        let n = length tree.links in
        subst (λ y. y < length tree.nodes) (last-ends tree.links n x f.instance d ds way.0) (links_join_ports tree is l (last-there tree.links n x f.instance d ds way.0)).1

pub past-unfound : (tree : Plan) → IsTree tree → (x y : ℕ) → x < length tree.nodes → length tree.nodes ≤ y → (nodes : List FoundNode) → AllByRecursion (Known tree x) nodes → tally (is_node y) nodes ≡ 0
past-unfound tree is x y there past [] known = refl
past-unfound tree is x y there past (f ∷ nodes) known =
    let rest = past-unfound tree is x y there past nodes known.1 in
    let lt = known-there tree is x f there known.0 in
    let other : one_if (f.instance == y) ≡ 0 = ap one_if (ne_eqb f.instance y (λ same. absurd (omega (arith, lt, past, same)))) in
    omega (arith, rest, other)

-- Each port is probed at most once.
pub port-once : (tree : Plan) → IsTree tree → (x : ℕ) → x < length tree.nodes → (probes : List Probe) (nodes : List FoundNode) → Walked tree x probes nodes →
    (u t : ℕ) → tally (is_place u t) (map place_of probes) ≤ 1
port-once tree is x there probes nodes walked u t =
    let few = places-few tree x u t probes nodes walked in
    let one = by_order (cases_lt u (length tree.nodes)) in
    omega (arith, few, one)
  where
    by_order : (u < length tree.nodes) ⊎ (length tree.nodes ≤ u) → tally (is_node u) nodes ≤ 1
    by_order (inl lt) = node-once tree is x probes nodes walked (length (way_of tree.links x u)) u (way_of tree.links x u) (ways_are_there tree is x u there lt) (omega arith)
    by_order (inr past) = let none = past-unfound tree is x u there past nodes walked.known in omega (arith, none)
