-- Where no port is lost, each node of the tree is found, and once.
use Rattle.std.proofs.Common.{◌≡◌, ℕ, ◌+◌, ◌<◌, ◌≤◌, ◌⊎◌, inl, inr, Bool, true, false, List, [], ◌∷◌, length, map, refl, sym, ◌∙◌, ap, subst, arith, eq-eqb, zero, suc, if◌then◌else◌}
use Rattle.std.specs.Prelude.{Option, Some, None, ◌==◌, ◌&&◌, not, filter_map, nat_lt, option_map, unwrap_or}
use Rattle.std.specs.List.{AllByRecursion, cons_option, count_by, flat_map, range_with_len}
use Rattle.std.proofs.lemmas.Bool.{and_right, cases_lt, le-ltb, lt-ltb, ne_eqb, not-true}
use Rattle.std.proofs.lemmas.List.Sums.{sum_by-cons}
use Rattle.net_topology.specs.Links.{IsWay, end_of, end_port, link_at, start_of, start_port}
use Rattle.net_topology.specs.Parts.{way_of}
use Rattle.net_topology.specs.Ranks.{rank_of}
use Rattle.net_topology.specs.Tree.{FitsPlan, IsTree, port_count}
use Rattle.net_topology.specs.declared.plan.Plan.{Plan}
use Rattle.net_topology.proofs.Laws.{links_join_ports, links_leave_by_ports, other_ports_lead_on, ranks_are_bounded, ranks_fall, ways_are_there}
use Rattle.net_machine.specs.Nodes.{is_host_at}
use Rattle.net_walks.specs.Ways.{GoesOver, IsNextLink, last_of}
use Rattle.net_walks.proofs.Laws.{ways_are_walks}
use Rattle.topology_walk.specs.Finding.{IsFoundOf, behind, found_at, is_among}
use Rattle.topology_walk.specs.Nodes.{NodePort, first_found, found_over, is_arrival, port_of, ports_behind}
use Rattle.topology_walk.specs.Probes.{Probe, finding, place_of}
use Rattle.topology_walk.specs.Walks.{found_along}
use Rattle.topology_walk.specs.Whole.{WholeTreeIsFound, times_found}
use Rattle.topology_walk.proofs.Counting.{filter_map-flat, one_if, tally}
use Rattle.topology_walk.proofs.Finding.{Known, Walked, front, front-long, front-way, is_node, node-once, past-unfound}
use Rattle.topology_walk.proofs.Knowing.{host-there, last-ends, leads-along, other-port}
use Rattle.topology_walk.proofs.Members.{In, all-in, counts, from-filter, from-flat, from-found, from-map, in-filter, in-flat, in-found, in-map, in-range}
use Rattle.walk_books.specs.declared.found.Found.{Found}
use Rattle.walk_books.specs.declared.found.FoundNode.{FoundNode}
use Rattle.walk_books.specs.declared.found.LostPort.{LostPort}

some-same : {A : Type 0} (x y : A) → ◌≡◌ {A = Option A} (Some x) (Some y) → x ≡ y
some-same x y is = ap (λ o. unwrap_or o x) is

-- ---- each node that is found is known

-- a node behind a further port of a listed one
record Behind (tree : Plan) (nodes : List FoundNode) (f : FoundNode) : Type 0 where
  parent : FoundNode
  listed : In parent nodes
  port : ℕ
  further : is_arrival parent port ≡ false
  link : ℕ
  at : link_at tree.links parent.instance port ≡ Some link
  over : f ≡ found_over tree link

behind-of : (tree : Plan) (lost : List LostPort) (nodes : List FoundNode) (f : FoundNode) → In f (flat_map (behind tree lost) nodes) → Behind tree nodes f
behind-of tree lost nodes f is =
    let one = from-flat (behind tree lost) f nodes is in
    let g = one.0 in
    let two = from-found (found_at tree lost) f (ports_behind g) one.2 in
    let p = two.0 in
    let all = map (port_of g) (range_with_len 0 g.ports) in
    let three = from-filter (λ (q : NodePort). not (is_arrival g q.port)) p all two.1 in
    let four = from-map (port_of g) p (range_with_len 0 g.ports) three.0 in
    let k = four.0 in
    by_link g one.1 k (not-true (is_arrival g k) (ap (λ (q : NodePort). not (is_arrival g q.port)) (sym four.1) ∙ three.1))
    (link_at tree.links g.instance k) refl (ap (found_at tree lost) (sym four.1) ∙ two.2)
  where
    by_link : (g : FoundNode) → In g nodes → (k : ℕ) → is_arrival g k ≡ false → (o : Option ℕ) → link_at tree.links g.instance k ≡ o → found_at tree lost (port_of g k) ≡ Some f → Behind tree nodes f
    by_link g listed k further o at h = elsewhere (is_among lost (port_of g k)) o at (ap (λ (t : Option ℕ). if is_among lost (port_of g k) then None else option_map (found_over tree) t) (sym at) ∙ h)
      where
        elsewhere : (b : Bool) (t : Option ℕ) → link_at tree.links g.instance k ≡ t → (if b then None else option_map (found_over tree) t) ≡ Some f → Behind tree nodes f
        elsewhere true t is z = let none : ◌≡◌ {A = Option FoundNode} None (Some f) = z in absurd cc
        elsewhere false None is z = let none : ◌≡◌ {A = Option FoundNode} None (Some f) = z in absurd cc
        elsewhere false (Some d) is z = record {
          parent = g;
          listed = listed;
          port = k;
          further = further;
          link = d;
          at = is;
          over = sym (some-same (found_over tree d) f z);
        }

-- where its parent is known it is known
known-next : (tree : Plan) → IsTree tree → (x : ℕ) (nodes : List FoundNode) (f : FoundNode) → (b : Behind tree nodes f) → Known tree x b.parent → Known tree x f
known-next tree is x nodes f b known =
    let to = leads-along tree is x b.parent known.0 b.port b.link known.1 known.2 b.further b.at in (
      to.first ∷ to.rest,
      subst (λ (g : FoundNode). IsWay tree.links x g.instance (to.first ∷ to.rest)) (sym b.over) to.way,
      b.over ∙ ap (found_over tree) (sym to.last),
    )

-- from parent to node ranks fall
ranks-next : (tree : Plan) → IsTree tree → (nodes : List FoundNode) (f : FoundNode) (b : Behind tree nodes f) (c : Behind tree nodes b.parent) → rank_of tree b.link < rank_of tree c.link
ranks-next tree is nodes f b c =
    let lt = (links_leave_by_ports tree c.link c.parent.instance c.port c.at).2 in
    let other = other-port tree is c.link b.port lt (ap (λ (g : FoundNode). is_arrival g b.port) (sym c.over) ∙ b.further) in
    let at : link_at tree.links (end_of tree.links c.link) b.port ≡ Some b.link = ap (λ (g : FoundNode). link_at tree.links g.instance b.port) (sym c.over) ∙ b.at in
    ranks_fall tree is c.link b.link lt (other_ports_lead_on tree c.link b.link b.port other at)

module _ (tree : Plan) (is : IsTree tree) (x : ℕ) (found : Found) (of : IsFoundOf tree x found) where
  parted : (f : FoundNode) → In f found.nodes → (first_found tree x ≡ f) ⊎ Behind tree found.nodes f
  parted f listed = by_place (subst (λ (ns : List FoundNode). In f ns) of.nodes listed)
    where
      by_place : In f (first_found tree x ∷ flat_map (behind tree found.lost) found.nodes) → (first_found tree x ≡ f) ⊎ Behind tree found.nodes f
      by_place (inl first) = inl first
      by_place (inr rest) = inr (behind-of tree found.lost found.nodes f rest)

  first-known : (f : FoundNode) → first_found tree x ≡ f → Known tree x f
  first-known f first = ([], (ap (λ (g : FoundNode). g.instance) first, (tt, tt)), sym first)

  known-by : (m : ℕ) (f : FoundNode) (b : Behind tree found.nodes f) → length tree.nodes < rank_of tree b.link + m → Known tree x f
  known-by zero f b high = let most = ranks_are_bounded tree b.link in absurd (omega (arith, high, most))
  known-by (suc m) f b high = known-next tree is x found.nodes f b (by_parent (parted b.parent b.listed) (λ c higher. known-by m b.parent c higher))
    where
      by_parent : (first_found tree x ≡ b.parent) ⊎ Behind tree found.nodes b.parent → ((c : Behind tree found.nodes b.parent) → length tree.nodes < rank_of tree c.link + m → Known tree x b.parent) →
          Known tree x b.parent
      by_parent (inl first) rest = first-known b.parent first
      by_parent (inr c) rest = let falls = ranks-next tree is found.nodes f b c in rest c (omega (arith, high, falls))

  known-found : AllByRecursion (Known tree x) found.nodes
  known-found = all-in (Known tree x) found.nodes (λ f listed. by_place f (parted f listed))
    where
      by_place : (f : FoundNode) → (first_found tree x ≡ f) ⊎ Behind tree found.nodes f → Known tree x f
      by_place f (inl first) = first-known f first
      by_place f (inr b) = known-by (suc (length tree.nodes)) f b (omega arith)

-- ---- at most once

-- a probe behind a port, without a loss
abbrev probe_at : NodePort → Probe
probe_at p = record { node = p.node; port = p.port; journal = [] }

places-same : (ps : List NodePort) → map place_of (map probe_at ps) ≡ ps
places-same [] = refl
places-same (p ∷ ps) = ap (λ (qs : List NodePort). p ∷ qs) (places-same ps)

finds-same : (tree : Plan) (ps : List NodePort) → filter_map (finding tree) (map probe_at ps) ≡ filter_map (found_at tree []) ps
finds-same tree [] = refl
finds-same tree (p ∷ ps) = ap (cons_option (option_map (found_over tree) (link_at tree.links p.node p.port))) (finds-same tree ps)

without-loss : (tree : Plan) → IsTree tree → (x : ℕ) (found : Found) → IsFoundOf tree x found → found.lost ≡ [] → Walked tree x (map probe_at (flat_map ports_behind found.nodes)) found.nodes
without-loss tree is x found of none =
    let ports = flat_map ports_behind found.nodes in
    record {
      asked = places-same ports;
      found = of.nodes ∙ ap (λ (lost : List LostPort). first_found tree x ∷ flat_map (behind tree lost) found.nodes) none
          ∙ ap (λ (fs : List FoundNode). first_found tree x ∷ fs) (sym (finds-same tree ports ∙ filter_map-flat (found_at tree []) ports_behind found.nodes));
      known = known-found tree is x found of;
    }

-- ---- at least once

goes-last : (tree : Plan) (d e : ℕ) (ds : List ℕ) → GoesOver tree d (e ∷ ds) → IsNextLink tree (last_of d (front e ds)) (last_of e ds)
goes-last tree d e [] goes = goes.0
goes-last tree d e (f ∷ ds) goes = goes-last tree e f ds goes.1

module _ (tree : Plan) (is : IsTree tree) (fits : FitsPlan tree) (x : ℕ) (host : is_host_at tree x ≡ true) (found : Found) (of : IsFoundOf tree x found) (none : found.lost ≡ []) where
  made : found.nodes ≡ first_found tree x ∷ flat_map (behind tree []) found.nodes
  made = of.nodes ∙ ap (λ (lost : List LostPort). first_found tree x ∷ flat_map (behind tree lost) found.nodes) none

  -- behind a further port of a listed node
  next-listed : (g : FoundNode) (k l : ℕ) → In g found.nodes → k < g.ports → is_arrival g k ≡ false → link_at tree.links g.instance k ≡ Some l → In (found_over tree l) found.nodes
  next-listed g k l listed lt further at =
      let passes = ap not further in
      let port = in-filter (λ (p : NodePort). not (is_arrival g p.port)) (port_of g k) (map (port_of g) (range_with_len 0 g.ports))
      (in-map (port_of g) k (range_with_len 0 g.ports) (in-range k 0 g.ports (omega arith) (omega (arith, lt)))) passes in
      let here = in-found (found_at tree []) (port_of g k) (found_over tree l) (ports_behind g) port (ap (option_map (found_over tree)) at) in
      subst (λ (ns : List FoundNode). In (found_over tree l) ns) (sym made) (inr (in-flat (behind tree []) g (found_over tree l) found.nodes listed here))

  along-listed : (n y : ℕ) (way : List ℕ) → IsWay tree.links x y way → length way ≤ n → In (found_along tree x way) found.nodes
  along-listed n y [] way le = subst (λ (ns : List FoundNode). In (first_found tree x) ns) (sym made) (inl refl)
  along-listed zero y (d ∷ ds) way le = absurd (omega (arith, le))
  along-listed (suc n) y (d ∷ []) way le =
      let first = (ways_are_walks tree x y d [] is fits host way).first in
      let leaves = links_leave_by_ports tree d x 0 first in
      let there : 0 < port_count tree.nodes x =
      subst (λ p. p < port_count tree.nodes x) leaves.1 (subst (λ u. start_port tree.links d < port_count tree.nodes u) leaves.0 (links_join_ports tree is d leaves.2).2) in
      next-listed (first_found tree x) 0 d (along-listed n x [] (refl, (tt, tt)) (omega arith)) there (ap (λ b. not b && 0 == 0) (eq-eqb x x refl)) first
  along-listed (suc n) y (d ∷ e ∷ ds) way le =
      let l = last_of e ds in
      let b = last_of d (front e ds) in
      let t = start_port tree.links l in
      let next = goes-last tree d e ds (ways_are_walks tree x y d (e ∷ ds) is fits host way).goes in
      let before = along-listed n (start_of tree.links l) (front d (e ∷ ds)) (front-way tree is x y d (e ∷ ds) way) (omega (arith, le, front-long d (e ∷ ds))) in
      next-listed (found_over tree b) t l before next.port
      (and_right (not (start_of tree.links b == end_of tree.links b)) (t == end_port tree.links b) (ne_eqb t (end_port tree.links b) next.other)) next.link

  number-along : (y : ℕ) (way : List ℕ) → IsWay tree.links x y way → (found_along tree x way).instance ≡ y
  number-along y [] way = way.0
  number-along y (d ∷ ds) way = last-ends tree.links (length tree.links) x y d ds way.0

-- ---- how often

tally-count : {A : Type 0} (p : A → Bool) (xs : List A) → count_by p xs ≡ tally p xs
tally-count p [] = refl
tally-count {A} p (y ∷ xs) =
    let rest = tally-count p xs in
    let more = sum_by-cons (λ (z : A). one_if (p z)) y xs in
    omega (arith, rest, more)

pub whole-tree : WholeTreeIsFound
whole-tree tree x found is fits host of none y = by_order (cases_lt y n)
  where
    n : ℕ
    n = length tree.nodes

    nodes : List FoundNode
    nodes = found.nodes

    walked : Walked tree x (map probe_at (flat_map ports_behind nodes)) nodes
    walked = without-loss tree is x found of none

    there : x < n
    there = host-there tree x host

    by_order : (y < n) ⊎ (n ≤ y) → times_found nodes y ≡ (if nat_lt y n then 1 else 0)
    by_order (inl lt) =
        let way = way_of tree.links x y in
        let is_way = ways_are_there tree is x y there lt in
        let most = node-once tree is x (map probe_at (flat_map ports_behind nodes)) nodes walked (length way) y way is_way (omega arith) in
        let listed = along-listed tree is fits x host found of none (length way) y way is_way (omega arith) in
        let least = counts (is_node y) (found_along tree x way) nodes listed
        (eq-eqb (found_along tree x way).instance y (number-along tree is fits x host found of none y way is_way)) in
        let same = tally-count (is_node y) nodes in
        let one : (if nat_lt y n then 1 else 0) ≡ 1 = ap one_if (lt-ltb y n lt) in
        omega (arith, most, least, same, one)
    by_order (inr past) =
        let few = past-unfound tree is x y there past nodes walked.known in
        let same = tally-count (is_node y) nodes in
        let zero_is : (if nat_lt y n then 1 else 0) ≡ 0 = ap one_if (le-ltb y n past) in
        omega (arith, few, same, zero_is)
