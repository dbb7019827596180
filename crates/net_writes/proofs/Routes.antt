-- Writes at the nodes of a way, one after another, leave a route.
use Rattle.std.proofs.Common.{◌≡◌, ◌≢◌, ℕ, ◌<◌, true, List, [], ◌∷◌, ◌++◌, length, map, refl, sym, ◌∙◌, ap, subst, arith, zero, suc}
use Rattle.std.specs.Prelude.{Option, Some, None, slice_get, unwrap_or}
use Rattle.std.specs.Option.{option_and_then}
use Rattle.std.proofs.lemmas.Bool.{both_ways}
use Rattle.chdr_words.specs.declared.epid.Epid.{Epid}
use Rattle.net_topology.specs.Links.{Avoids, IsWay, end_of, end_port, start_port}
use Rattle.net_topology.specs.Parts.{way_of}
use Rattle.net_topology.specs.Tree.{FitsPlan, IsTree, epid_at, epid_of, node_with, port_count}
use Rattle.net_topology.specs.declared.plan.LinkPlan.{LinkPlan}
use Rattle.net_topology.specs.declared.plan.NodePlan.{NodePlan}
use Rattle.net_topology.specs.declared.plan.Plan.{Plan}
use Rattle.net_topology.proofs.Laws.{epids_name_nodes, links_join_ports, ways_are_there}
use Rattle.net_machine.specs.Nodes.{exits_of, is_switch}
use Rattle.net_machine.specs.State.{Node}
use Rattle.net_lone.specs.Stages.{HavePlaces}
use Rattle.net_walks.specs.Walks.{advertised_at}
use Rattle.net_walks.specs.Ways.{last_of, left_by}
use Rattle.net_walks.specs.Entries.{entered}
use Rattle.net_walks.proofs.Laws.{backs_start, hosts_have_epids, hosts_have_no_table, ways_are_walks}
use Rattle.net_writes.specs.Crossings.{Crossing, crossed_at, crossed_by}
use Rattle.net_writes.specs.Routes.{IsRoute, IsRouteWritten, MayBeWritten, MayWrite, OthersStay, RoutesAreWritten, crossed_over, crossing_between, route_left}
use Rattle.net_writes.proofs.Entries.{crossed-twice, entered-here, entered-long, entered-other, entered-place, entered-places, entry-lasts}
use Rattle.net_writes.proofs.Ways.{IsBetween, IsHome, between, home-back, home-by, last-split, step-on, way-behind, way-ends, way-front, way-rest, way-there}

-- ---- nodes and their EPIDs

there-by : (nodes : List NodePlan) (x : ℕ) (epid : Epid) → option_and_then epid_of (slice_get nodes x) ≡ Some epid → x < length nodes
there-by [] x epid is = let z : ◌≡◌ {A = Option Epid} None (Some epid) = is in absurd cc
there-by (node ∷ nodes) zero epid is = omega arith
there-by (node ∷ nodes) (suc x) epid is = let rest : x < length nodes = there-by nodes x epid is in omega (arith, rest)

pub node-there : (tree : Plan) → IsTree tree → (x : ℕ) (epid : Epid) → node_with tree.nodes epid ≡ Some x → x < length tree.nodes
node-there tree is x epid at = there-by tree.nodes x epid ((epids_name_nodes tree is x epid).0 at)

same-node : (x y : ℕ) → ◌≡◌ {A = Option ℕ} (Some x) (Some y) → x ≡ y
same-node x y is = ap (λ (o : Option ℕ). unwrap_or o x) is

-- the node of the host's EPID is the host
host-node : (tree : Plan) (x y z : ℕ) (src a b : Epid) → IsRoute tree x src y a z b → node_with tree.nodes src ≡ Some x
host-node tree x y z src a b route =
    (epids_name_nodes tree route.is_tree x src).1 (hosts_have_epids tree x route.host ∙ ap (λ (e : Epid). Some e) route.own)

-- so the entry for an end of the route that is the host leads home
a-home : (tree : Plan) (x y z : ℕ) (src a b : Epid) (before : List ℕ) (d : ℕ) (ds : List ℕ) → IsRoute tree x src y a z b → IsWay tree.links y z (before ++ d ∷ ds) →
    a ≡ src → IsHome tree x (end_of tree.links d) (end_port tree.links d)
a-home tree x y z src a b before d ds route way mine =
    let same : y ≡ x = same-node y x (sym route.from ∙ ap (λ (e : Epid). node_with tree.nodes e) mine ∙ host-node tree x y z src a b route) in
    subst (λ (n : ℕ). IsHome tree n (end_of tree.links d) (end_port tree.links d)) same
    (home-by tree route.is_tree y (end_of tree.links d) before d (way-front tree.links y z before d ds way))

b-home : (tree : Plan) (x y z : ℕ) (src a b : Epid) (before : List ℕ) (d e : ℕ) (ds : List ℕ) → IsRoute tree x src y a z b → IsWay tree.links y z (before ++ d ∷ e ∷ ds) →
    end_of tree.links d < length tree.nodes → b ≡ src → IsHome tree x (end_of tree.links d) (start_port tree.links e)
b-home tree x y z src a b before d e ds route way here mine =
    let same : z ≡ x = same-node z x (sym route.to ∙ ap (λ (epid : Epid). node_with tree.nodes epid) mine ∙ host-node tree x y z src a b route) in
    subst (λ (n : ℕ). IsHome tree n (end_of tree.links d) (start_port tree.links e)) same
    (home-back tree route.is_tree z (end_of tree.links d) e ds (node-there tree route.is_tree z b route.to) here (way-behind tree y z before d (e ∷ ds) way))

-- ---- a write may be done

between-on : (tree : Plan) → IsTree tree → FitsPlan tree → (y z : ℕ) (before : List ℕ) (d e : ℕ) (ds : List ℕ) → IsWay tree.links y z (before ++ d ∷ e ∷ ds) → IsBetween tree d e
between-on tree is fits y z before d e ds way =
    let rest = way-rest tree y z before (d ∷ e ∷ ds) way in
    between tree is fits rest.0 z d e ds (way-there tree.links y z before d (e ∷ ds) way) rest.1

pub may-be-written : MayBeWritten
may-be-written tree x y z src a b before d e ds route way =
    by_list (way_of links x n) refl
    (ways_are_there tree route.is_tree x n (node-there tree route.is_tree x src (host-node tree x y z src a b route)) at.here)
  where
    links : List LinkPlan
    links = tree.links

    n : ℕ
    n = end_of links d

    at : IsBetween tree d e
    at = between-on tree route.is_tree route.fits y z before d e ds way

    by_list : (es : List ℕ) → way_of links x n ≡ es → IsWay links x n es → MayWrite tree x src a b d e
    by_list [] is goes =
        absurd (both_ways (is_switch tree n) (ap (λ (m : ℕ). is_switch tree m) (sym goes.0) ∙ hosts_have_no_table tree x route.host) at.switch)
    by_list (first ∷ rest) is goes =
        let l = last_of first rest in
        let ends : end_of links l ≡ n = way-ends links x n first rest goes in
        let split = last-split first rest in
        let to_l : IsWay links x n (split.0 ++ l ∷ []) = subst (λ (es : List ℕ). IsWay links x n es) split.1 goes in
        record {
          first = first;
          behind = rest;
          way = is;
          walk = ways_are_walks tree x n first rest route.is_tree route.fits route.host goes;
          may = record {
            switch = ap (λ (m : ℕ). is_switch tree m) ends ∙ at.switch;
            a = record {
              fits = route.a_fits;
              there = subst (λ (m : ℕ). end_port links d < port_count tree.nodes m) (sym ends) at.arrival;
              home = λ mine. sym (a-home tree x y z src a b before d (e ∷ ds) route way mine split.0 l to_l);
            };
            b = record {
              fits = route.b_fits;
              there = subst (λ (m : ℕ). start_port links e < port_count tree.nodes m) (sym ends) at.onward;
              home = λ mine. sym (b-home tree x y z src a b before d e ds route way at.here mine split.0 l to_l);
            };
          };
        }

-- ---- what a write leaves

-- what holds after each entry that a walker of host x writes on a way holds when it went that way
over-way : (tree : Plan) (x : ℕ) (src : Epid) (P : List Node → Type 0) →
    ((before : List ℕ) (l : ℕ) (nodes : List Node) → IsWay tree.links x (end_of tree.links l) (before ++ l ∷ []) → P nodes →
    P (entered (end_of tree.links l) src (end_port tree.links l) nodes)) →
    (z : ℕ) (before : List ℕ) (d : ℕ) (ds : List ℕ) (nodes : List Node) → IsWay tree.links x z (before ++ d ∷ ds) → P nodes → P (left_by tree src d ds nodes)
over-way tree x src P step z before d [] nodes way p = step before d nodes (way-front tree.links x z before d [] way) p
over-way tree x src P step z before d (e ∷ ds) nodes way p =
    over-way tree x src P step z (before ++ d ∷ []) e ds (advertised_at tree src d nodes)
    (subst (λ (es : List ℕ). IsWay tree.links x z es) (sym (step-on before d (e ∷ ds))) way)
    (step before d nodes (way-front tree.links x z before d (e ∷ ds) way) p)

-- how many nodes there are, the places of their tables, and the entries of other EPIDs
record Lasts (tree : Plan) (src a b : Epid) (nodes left : List Node) : Type 0 where
  long : length left ≡ length tree.nodes
  places : HavePlaces tree left
  others : OthersStay src a b nodes left

lasts-entered : (tree : Plan) (src a b : Epid) (z : ℕ) (epid : Epid) (port : ℕ) (nodes left : List Node) → z < length tree.nodes →
    ((other : Epid) → other ≢ a → other ≢ b → other ≢ src → other ≢ epid) → Lasts tree src a b nodes left → Lasts tree src a b nodes (entered z epid port left)
lasts-entered tree src a b z epid port nodes left lt named last = record {
  long = entered-long z epid port left ∙ last.long;
  places = entered-places tree z epid port left last.places;
  others = λ y other not_a not_b not_src. entered-other z epid port left (subst (λ n. z < n) (sym last.long) lt) y other (named other not_a not_b not_src)
      ∙ last.others y other not_a not_b not_src;
}

-- a node to which a way leads is there
end-there : (tree : Plan) → IsTree tree → (x z : ℕ) (before : List ℕ) (l : ℕ) (ds : List ℕ) → IsWay tree.links x z (before ++ l ∷ ds) → end_of tree.links l < length tree.nodes
end-there tree is x z before l ds way = (links_join_ports tree is l (way-there tree.links x z before l ds way)).1

-- a write to node n, over the way there
module _ (tree : Plan) (is : IsTree tree) (x : ℕ) (src : Epid) (n first : ℕ) (behind : List ℕ) (way : IsWay tree.links x n (first ∷ behind)) (it : Crossing) where
  ends : end_of tree.links (last_of first behind) ≡ n
  ends = way-ends tree.links x n first behind way

  lasts-crossed : (nodes left : List Node) → n < length tree.nodes → Lasts tree src it.a it.b nodes left → Lasts tree src it.a it.b nodes (crossed_by tree src first behind it left)
  lasts-crossed nodes left lt last =
      let z = end_of tree.links (last_of first behind) in
      let here : z < length tree.nodes = subst (λ m. m < length tree.nodes) (sym ends) lt in
      let over : Lasts tree src it.a it.b nodes (left_by tree src first behind left) =
      over-way tree x src (λ (ns : List Node). Lasts tree src it.a it.b nodes ns)
      (λ before k ns goes p. lasts-entered tree src it.a it.b (end_of tree.links k) src (end_port tree.links k) nodes ns
      (end-there tree is x (end_of tree.links k) before k [] goes) (λ other not_a not_b not_src. not_src) p)
      n [] first behind left way last in
      let two = lasts-entered tree src it.a it.b z it.b it.to_b nodes (left_by tree src first behind left) here (λ other not_a not_b not_src. not_b) over in
      let three = lasts-entered tree src it.a it.b z it.a it.to_a nodes (entered z it.b it.to_b (left_by tree src first behind left)) here (λ other not_a not_b not_src. not_a) two in
      subst (λ (ns : List Node). Lasts tree src it.a it.b nodes ns) (sym (crossed-twice z it (left_by tree src first behind left) (subst (λ m. z < m) (sym over.long) here))) three

  -- an entry of another node lasts, unless it is the host's and leads elsewhere
  entry-stays : (y : ℕ) (other : Epid) (to : ℕ) (nodes : List Node) → length nodes ≡ length tree.nodes → n < length tree.nodes → (other ≡ src → IsHome tree x y to) → y ≢ n →
      exits_of nodes y other ≡ Some to → exits_of (crossed_by tree src first behind it nodes) y other ≡ Some to
  entry-stays y other to nodes long lt home elsewhere has =
      let z = end_of tree.links (last_of first behind) in
      let here : z < length tree.nodes = subst (λ m. m < length tree.nodes) (sym ends) lt in
      let far : y ≢ z = λ same. elsewhere (same ∙ ends) in
      let over : Stays (left_by tree src first behind nodes) =
      over-way tree x src Stays
      (λ before k ns goes p. (
        entered-long (end_of tree.links k) src (end_port tree.links k) ns ∙ p.0,
        entry-lasts (end_of tree.links k) src (end_port tree.links k) ns
            (subst (λ m. end_of tree.links k < m) (sym p.0) (end-there tree is x (end_of tree.links k) before k [] goes)) y other to
            (λ same mine. home mine before k (subst (λ (m : ℕ). IsWay tree.links x m (before ++ k ∷ [])) (sym same) goes)) p.1,
      ))
      n [] first behind nodes way (long, has) in
      let left = left_by tree src first behind nodes in
      let one : z < length left = subst (λ m. z < m) (sym over.0) here in
      let two : z < length (entered z it.b it.to_b left) = subst (λ m. z < m) (sym (entered-long z it.b it.to_b left)) one in
      ap (λ (ns : List Node). exits_of ns y other) (crossed-twice z it left one)
      ∙ entry-lasts z it.a it.to_a (entered z it.b it.to_b left) two y other to (λ same mine. absurd (far same))
      (entry-lasts z it.b it.to_b left one y other to (λ same mine. absurd (far same)) over.1)
    where
      Stays : List Node → Type 0
      Stays ns = (length ns ≡ length tree.nodes) × (exits_of ns y other ≡ Some to)

  -- the node has both entries
  entries-there : (nodes : List Node) → length nodes ≡ length tree.nodes → n < length tree.nodes → HavePlaces tree nodes → is_switch tree n ≡ true → (k m : ℕ) →
      epid_at tree.nodes k ≡ Some it.a → epid_at tree.nodes m ≡ Some it.b → it.a ≢ it.b → Lasts tree src it.a it.b nodes nodes →
      (exits_of (crossed_by tree src first behind it nodes) n it.a ≡ Some it.to_a) × (exits_of (crossed_by tree src first behind it nodes) n it.b ≡ Some it.to_b)
  entries-there nodes long lt places switch k m has_a has_b unlike last =
      subst (λ (y : ℕ). (exits_of (crossed_by tree src first behind it nodes) y it.a ≡ Some it.to_a) × (exits_of (crossed_by tree src first behind it nodes) y it.b ≡ Some it.to_b)) ends (
        ap (λ (ns : List Node). exits_of ns z it.a) twice
            ∙ entered-here z it.a it.to_a (entered z it.b it.to_b left) two (entered-place z it.b it.to_b left it.a z ∙ over.places z k it.a here_switch has_a),
        ap (λ (ns : List Node). exits_of ns z it.b) twice
            ∙ entered-other z it.a it.to_a (entered z it.b it.to_b left) two z it.b (λ same. unlike (sym same))
            ∙ entered-here z it.b it.to_b left one (over.places z m it.b here_switch has_b),
      )
    where
      z : ℕ
      z = end_of tree.links (last_of first behind)

      left : List Node
      left = left_by tree src first behind nodes

      over : Lasts tree src it.a it.b nodes left
      over = over-way tree x src (λ (ns : List Node). Lasts tree src it.a it.b nodes ns)
          (λ before e ns goes p. lasts-entered tree src it.a it.b (end_of tree.links e) src (end_port tree.links e) nodes ns
          (end-there tree is x (end_of tree.links e) before e [] goes) (λ other not_a not_b not_src. not_src) p)
          n [] first behind nodes way last

      here_switch : is_switch tree z ≡ true
      here_switch = ap (λ (y : ℕ). is_switch tree y) ends ∙ switch

      one : z < length left
      one = subst (λ y. z < y) (sym over.long) (subst (λ y. y < length tree.nodes) (sym ends) lt)

      two : z < length (entered z it.b it.to_b left)
      two = subst (λ y. z < y) (sym (entered-long z it.b it.to_b left)) one

      twice : crossed_at z it left ≡ entered z it.a it.to_a (entered z it.b it.to_b left)
      twice = crossed-twice z it left one

-- ---- one write after another

-- a route over a way, whose writes may all be done
module _ (tree : Plan) (x y z : ℕ) (src a b : Epid) (route : IsRoute tree x src y a z b) where
  -- the nodes after the write between links d and e
  abbrev wrote : ℕ → ℕ → List Node → List Node
  wrote d e nodes = crossed_over tree src (way_of tree.links x (end_of tree.links d)) (crossing_between tree.links a b d e) nodes

  -- it goes this way
  wrote-by : (d e : ℕ) (nodes : List Node) (may : MayWrite tree x src a b d e) → wrote d e nodes ≡ crossed_by tree src may.first may.behind (crossing_between tree.links a b d e) nodes
  wrote-by d e nodes may = ap (λ (es : List ℕ). crossed_over tree src es (crossing_between tree.links a b d e) nodes) may.way

  way-to : (d e : ℕ) (may : MayWrite tree x src a b d e) → end_of tree.links d < length tree.nodes → IsWay tree.links x (end_of tree.links d) (may.first ∷ may.behind)
  way-to d e may here =
      subst (λ (es : List ℕ). IsWay tree.links x (end_of tree.links d) es) may.way
      (ways_are_there tree route.is_tree x (end_of tree.links d) (node-there tree route.is_tree x src (host-node tree x y z src a b route)) here)

  lasts-wrote : (before : List ℕ) (d e : ℕ) (ds : List ℕ) (nodes left : List Node) → IsWay tree.links y z (before ++ d ∷ e ∷ ds) →
      Lasts tree src a b nodes left → Lasts tree src a b nodes (wrote d e left)
  lasts-wrote before d e ds nodes left way last =
      let at = between-on tree route.is_tree route.fits y z before d e ds way in
      let may = may-be-written tree x y z src a b before d e ds route way in
      subst (λ (ns : List Node). Lasts tree src a b nodes ns) (sym (wrote-by d e left may))
      (lasts-crossed tree route.is_tree x src (end_of tree.links d) may.first may.behind (way-to d e may at.here) (crossing_between tree.links a b d e) nodes left at.here last)

  -- an entry of a node that isn't written any more lasts
  stays-on : (before : List ℕ) (d : ℕ) (ds behind : List ℕ) (nodes left : List Node) (n : ℕ) (other : Epid) (to : ℕ) → IsWay tree.links y z (before ++ (d ∷ ds ++ behind)) →
      Lasts tree src a b nodes left → (other ≡ src → IsHome tree x n to) → Avoids n (map (end_of tree.links) (d ∷ ds ++ behind)) →
      exits_of left n other ≡ Some to → exits_of (route_left tree x src a b (d ∷ ds) left) n other ≡ Some to
  stays-on before d [] behind nodes left n other to way last home avoids has = has
  stays-on before d (e ∷ ds) behind nodes left n other to way last home avoids has =
      let at = between-on tree route.is_tree route.fits y z before d e (ds ++ behind) way in
      let may = may-be-written tree x y z src a b before d e (ds ++ behind) route way in
      let stays : exits_of (wrote d e left) n other ≡ Some to =
      ap (λ (ns : List Node). exits_of ns n other) (wrote-by d e left may)
      ∙ entry-stays tree route.is_tree x src (end_of tree.links d) may.first may.behind (way-to d e may at.here) (crossing_between tree.links a b d e) n other to left last.long at.here home avoids.0 has in
      stays-on (before ++ d ∷ []) e ds behind nodes (wrote d e left) n other to
      (subst (λ (es : List ℕ). IsWay tree.links y z es) (sym (step-on before d (e ∷ ds ++ behind))) way)
      (lasts-wrote before d e (ds ++ behind) nodes left way last) home avoids.1 stays

  -- each node has its entries, and what lasts does
  record Written (ds : List ℕ) (nodes left : List Node) : Type 0 where
    written : IsRouteWritten tree (exits_of left) a b ds
    last : Lasts tree src a b nodes left

  all-written : (before : List ℕ) (d : ℕ) (ds behind : List ℕ) (nodes left : List Node) → IsWay tree.links y z (before ++ (d ∷ ds ++ behind)) →
      Lasts tree src a b nodes left → Written (d ∷ ds) nodes (route_left tree x src a b (d ∷ ds) left)
  all-written before d [] behind nodes left way last = record {
    written = tt;
    last = last;
  }
  all-written before d (e ∷ ds) behind nodes left way last =
      let n = end_of tree.links d in
      let at = between-on tree route.is_tree route.fits y z before d e (ds ++ behind) way in
      let may = may-be-written tree x y z src a b before d e (ds ++ behind) route way in
      let next : List Node = wrote d e left in
      let lasts_on = lasts-wrote before d e (ds ++ behind) nodes left way last in
      let further : IsWay tree.links y z ((before ++ d ∷ []) ++ (e ∷ ds ++ behind)) =
      subst (λ (es : List ℕ). IsWay tree.links y z es) (sym (step-on before d (e ∷ ds ++ behind))) way in
      let rest = all-written (before ++ d ∷ []) e ds behind nodes next further lasts_on in
      let has = entries-there tree route.is_tree x src n may.first may.behind (way-to d e may at.here) (crossing_between tree.links a b d e) left last.long at.here last.places at.switch y z
      ((epids_name_nodes tree route.is_tree y a).0 route.from) ((epids_name_nodes tree route.is_tree z b).0 route.to) route.other
      (record { long = last.long; places = last.places; others = λ k other not_a not_b not_src. refl }) in
      let by = wrote-by d e left may in
      let avoids : Avoids n (map (end_of tree.links) (e ∷ ds ++ behind)) = (way-rest tree y z before (d ∷ e ∷ ds ++ behind) way).1.1.1.0 in
      record {
        written = (
          stays-on (before ++ d ∷ []) e ds behind nodes next n b (start_port tree.links e) further lasts_on
              (λ mine. b-home tree x y z src a b before d e (ds ++ behind) route way at.here mine) avoids (ap (λ (ns : List Node). exits_of ns n b) by ∙ has.1),
          stays-on (before ++ d ∷ []) e ds behind nodes next n a (end_port tree.links d) further lasts_on
              (λ mine. a-home tree x y z src a b before d (e ∷ ds ++ behind) route way mine) avoids (ap (λ (ns : List Node). exits_of ns n a) by ∙ has.0)
              ∙ ap (λ p. Some p) (sym (backs_start tree.links d).1),
          rest.written,
        );
        last = rest.last;
      }

pub routes-written : RoutesAreWritten
routes-written tree x y z src a b [] behind nodes route way long places = record {
  written = tt;
  others = λ k other not_a not_b not_src. refl;
  long = refl;
  places = places;
}
routes-written tree x y z src a b (d ∷ ds) behind nodes route way long places =
    let it = all-written tree x y z src a b route [] d ds behind nodes nodes way (record { long = long; places = places; others = λ k other not_a not_b not_src. refl }) in
    record {
      written = it.written;
      others = it.last.others;
      long = it.last.long ∙ sym long;
      places = it.last.places;
    }
