-- Ways between found nodes go over parents: of two nodes, over the parent of the one that is listed later.
use Rattle.std.proofs.Common.{◌≡◌, ◌≢◌, ℕ, zero, suc, ◌+◌, ◌*◌, ◌<◌, ◌≤◌, inl, inr, List, [], ◌∷◌, ◌++◌, length, map, refl, sym, ◌∙◌, ap, subst, arith, max}
use Rattle.std.proofs.lemmas.Bool.{cases_eq, cases_lt, eqb-true}
use Rattle.std.proofs.lemmas.List.{map-append}
use Rattle.std.proofs.lemmas.List.Sums.{passes_at_first}
use Rattle.net_topology.specs.Links.{Avoids, IsWay, NoneTwice, Walks, back_of, end_of, end_port, passed, start_of, start_port}
use Rattle.net_topology.specs.Parts.{way_of}
use Rattle.net_topology.specs.Tree.{IsTree}
use Rattle.net_topology.specs.declared.plan.LinkPlan.{LinkPlan}
use Rattle.net_topology.specs.declared.plan.Plan.{Plan}
use Rattle.net_topology.proofs.Laws.{ways_are_unique}
use Rattle.net_walks.proofs.Laws.{backs_are_there, backs_end, backs_start}
use Rattle.walk_books.specs.declared.found.FoundNode.{FoundNode}
use Rattle.found_nodes.specs.Found.{AreFound, IsFoundOver, IsListed, found_at, is_number, no_node, place_of}
use Rattle.route_writes.specs.Steps.{step_down, step_over, step_up, way_steps}

-- ---- numbers and places

-- a listed node has its number
pub number-at : (nodes : List FoundNode) (x : ℕ) → IsListed nodes x → (found_at nodes (place_of nodes x)).instance ≡ x
number-at nodes x listed =
    eqb-true (found_at nodes (place_of nodes x)).instance x (passes_at_first (is_number x) nodes no_node listed)

-- two listed nodes at one place are the same
pub same-place : (nodes : List FoundNode) (x z : ℕ) → IsListed nodes x → IsListed nodes z → place_of nodes x ≡ place_of nodes z → x ≡ z
same-place nodes x z x_listed z_listed same =
    sym (number-at nodes x x_listed) ∙ ap (λ (k : ℕ). (found_at nodes k).instance) same ∙ number-at nodes z z_listed

-- each of these is listed up to this place
abbrev IsBelow : List FoundNode → ℕ → List ℕ → Type 0
IsBelow nodes n [] = Unit {0}
IsBelow nodes n (x ∷ xs) = (place_of nodes x ≤ n) × IsBelow nodes n xs

below-more : (nodes : List FoundNode) (m n : ℕ) (xs : List ℕ) → m ≤ n → IsBelow nodes m xs → IsBelow nodes n xs
below-more nodes m n [] le below = tt
below-more nodes m n (x ∷ xs) le below = (omega (arith, le, below.0), below-more nodes m n xs le below.1)

below-on : (nodes : List FoundNode) (n : ℕ) (xs : List ℕ) (y : ℕ) → place_of nodes y ≤ n → IsBelow nodes n xs → IsBelow nodes n (xs ++ y ∷ [])
below-on nodes n [] y le below = (le, tt)
below-on nodes n (x ∷ xs) y le below = (below.0, below-on nodes n xs y le below.1)

-- so none of them is a node that is listed later
avoids-later : (nodes : List FoundNode) (n : ℕ) (xs : List ℕ) (y : ℕ) → n < place_of nodes y → IsBelow nodes n xs → Avoids y xs
avoids-later nodes n [] y lt below = tt
avoids-later nodes n (x ∷ xs) y lt below =
    ((λ same. let at : place_of nodes y ≡ place_of nodes x = ap (place_of nodes) same in omega (arith, at, lt, below.0)), avoids-later nodes n xs y lt below.1)

once-on : (nodes : List FoundNode) (n : ℕ) (xs : List ℕ) (y : ℕ) → n < place_of nodes y → IsBelow nodes n xs → NoneTwice xs → NoneTwice (xs ++ y ∷ [])
once-on nodes n [] y lt below once = (tt, tt)
once-on nodes n (x ∷ xs) y lt below once = (avoids-on xs once.0 (λ same. let at : place_of nodes x ≡ place_of nodes y = ap (place_of nodes) same in omega (arith, at, lt, below.0)), once-on nodes n xs y lt below.1 once.1)
  where
    avoids-on : (ys : List ℕ) → Avoids x ys → x ≢ y → Avoids x (ys ++ y ∷ [])
    avoids-on [] avoids other = (other, tt)
    avoids-on (z ∷ ys) avoids other = (avoids.0, avoids-on ys avoids.1 other)

-- ---- walks

walks-on : (links : List LinkPlan) (k x z d : ℕ) (ds : List ℕ) → d < 2 * k → start_of links d ≡ z → Walks links k x z ds → Walks links k x (end_of links d) (ds ++ d ∷ [])
walks-on links k x z d [] lt starts walk = (lt, starts ∙ sym walk, refl)
walks-on links k x z d (e ∷ ds) lt starts walk = (walk.0, walk.1, walks-on links k (end_of links e) z d ds lt starts walk.2)

-- ---- ways over parents

-- a way between two nodes that passes no node listed behind both
record Path (tree : Plan) (nodes : List FoundNode) (x z : ℕ) : Type 0 where
  way : List ℕ
  is : IsWay tree.links x z way
  below : IsBelow nodes (max (place_of nodes x) (place_of nodes z)) (passed tree.links x way)

module _ (tree : Plan) (nodes : List FoundNode) (found : AreFound tree nodes) where
  -- the node of this number, which is listed behind another
  abbrev node_of : ℕ → FoundNode
  node_of x = found_at nodes (place_of nodes x)

  -- its parent is listed before it
  pub parent-before : (x n : ℕ) → IsListed nodes x → n < place_of nodes x → place_of nodes (node_of x).parent < place_of nodes x
  parent-before x n listed lt = found.parents (place_of nodes x) (omega (arith, lt)) listed

  link-of : (x n : ℕ) → IsListed nodes x → n < place_of nodes x → (d : ℕ) × IsFoundOver tree (node_of x) d
  link-of x n listed lt = found.links (place_of nodes x) (omega (arith, lt)) listed

  -- up to its parent over link d, and on
  path-up : (x z d : ℕ) → IsListed nodes x → place_of nodes z < place_of nodes x → IsFoundOver tree (node_of x) d → (ds : List ℕ) →
      IsWay tree.links (node_of x).parent z ds → IsBelow nodes (max (place_of nodes (node_of x).parent) (place_of nodes z)) (passed tree.links (node_of x).parent ds) →
      IsWay tree.links x z (back_of d ∷ ds) × IsBelow nodes (max (place_of nodes x) (place_of nodes z)) (passed tree.links x (back_of d ∷ ds))
  path-up x z d listed lt over ds way below =
      let before = parent-before x (place_of nodes z) listed lt in
      let starts : start_of tree.links (back_of d) ≡ x = (backs_start tree.links d).0 ∙ over.node ∙ number-at nodes x listed in
      let ends : (node_of x).parent ≡ end_of tree.links (back_of d) = sym over.parent ∙ sym ((backs_end tree.links d).0) in
      let passes : IsBelow nodes (max (place_of nodes (node_of x).parent) (place_of nodes z)) (passed tree.links (end_of tree.links (back_of d)) ds) =
      subst (λ (p : ℕ). IsBelow nodes (max (place_of nodes (node_of x).parent) (place_of nodes z)) (passed tree.links p ds)) ends below in
      let on : IsWay tree.links (end_of tree.links (back_of d)) z ds = subst (λ (p : ℕ). IsWay tree.links p z ds) ends way in
      let most : max (place_of nodes (node_of x).parent) (place_of nodes z) < place_of nodes x = omega (arith, before, lt) in (
        (
          (backs_are_there (length tree.links) d over.there, starts, on.0),
          (avoids-later nodes (max (place_of nodes (node_of x).parent) (place_of nodes z)) (passed tree.links (end_of tree.links (back_of d)) ds) x most passes, on.1),
        ),
        (
          omega arith,
          below-more nodes (max (place_of nodes (node_of x).parent) (place_of nodes z)) (max (place_of nodes x) (place_of nodes z)) (passed tree.links (end_of tree.links (back_of d)) ds)
              (omega (arith, most)) passes,
        ),
      )

  -- from its parent over link d down to it
  path-down : (x z d : ℕ) → IsListed nodes z → place_of nodes x < place_of nodes z → IsFoundOver tree (node_of z) d → (ds : List ℕ) →
      IsWay tree.links x (node_of z).parent ds → IsBelow nodes (max (place_of nodes x) (place_of nodes (node_of z).parent)) (passed tree.links x ds) →
      IsWay tree.links x z (ds ++ d ∷ []) × IsBelow nodes (max (place_of nodes x) (place_of nodes z)) (passed tree.links x (ds ++ d ∷ []))
  path-down x z d listed lt over ds way below =
      let before = parent-before z (place_of nodes x) listed lt in
      let most : max (place_of nodes x) (place_of nodes (node_of z).parent) < place_of nodes z = omega (arith, before, lt) in
      let ends : end_of tree.links d ≡ z = over.node ∙ number-at nodes z listed in
      let passes : passed tree.links x ds ++ z ∷ [] ≡ passed tree.links x (ds ++ d ∷ []) =
      ap (λ (y : ℕ). passed tree.links x ds ++ y ∷ []) (sym ends) ∙ ap (λ (ys : List ℕ). x ∷ ys) (sym (map-append (end_of tree.links) ds (d ∷ []))) in (
        (
          subst (λ (y : ℕ). Walks tree.links (length tree.links) x y (ds ++ d ∷ [])) ends (walks-on tree.links (length tree.links) x (node_of z).parent d ds over.there over.parent way.0),
          subst NoneTwice passes (once-on nodes (max (place_of nodes x) (place_of nodes (node_of z).parent)) (passed tree.links x ds) z most below way.1),
        ),
        subst (λ (ys : List ℕ). IsBelow nodes (max (place_of nodes x) (place_of nodes z)) ys) passes
            (below-on nodes (max (place_of nodes x) (place_of nodes z)) (passed tree.links x ds) z (omega arith)
            (below-more nodes (max (place_of nodes x) (place_of nodes (node_of z).parent)) (max (place_of nodes x) (place_of nodes z)) (passed tree.links x ds) (omega (arith, most)) below)),
      )

  parent-listed : (x n : ℕ) → IsListed nodes x → n < place_of nodes x → IsListed nodes (node_of x).parent
  parent-listed x n listed lt = let before = parent-before x n listed lt in omega (arith, before, listed)

  path : (k x z : ℕ) → IsListed nodes x → IsListed nodes z → place_of nodes x + place_of nodes z < k → Path tree nodes x z
  path zero x z x_listed z_listed few = absurd (omega (arith, few))
  path (suc k) x z x_listed z_listed few = elim (cases_eq (place_of nodes x) (place_of nodes z)) [
    | inl same ↦ record {
      way = [];
      is = (same-place nodes x z x_listed z_listed same, (tt, tt));
      below = (omega arith, tt);
    }
    | inr other ↦ elim (cases_lt (place_of nodes z) (place_of nodes x)) [
      | inl lt ↦
          let it = link-of x (place_of nodes z) x_listed lt in
          let before = parent-before x (place_of nodes z) x_listed lt in
          let rest = path k (node_of x).parent z (parent-listed x (place_of nodes z) x_listed lt) z_listed (omega (arith, before, few)) in
          let made = path-up x z it.0 x_listed lt it.1 rest.way rest.is rest.below in
          record {
            way = back_of it.0 ∷ rest.way;
            is = made.0;
            below = made.1;
          }
      | inr ge ↦
          let lt : place_of nodes x < place_of nodes z = omega (arith, ge, other) in
          let it = link-of z (place_of nodes x) z_listed lt in
          let before = parent-before z (place_of nodes x) z_listed lt in
          let rest = path k x (node_of z).parent x_listed (parent-listed z (place_of nodes x) z_listed lt) (omega (arith, before, few)) in
          let made = path-down x z it.0 z_listed lt it.1 rest.way rest.is rest.below in
          record {
            way = rest.way ++ it.0 ∷ [];
            is = made.0;
            below = made.1;
          }
    ]
  ]

  abbrev far : ℕ → ℕ → ℕ
  far x z = place_of nodes x + place_of nodes z + 1

  -- ---- steps

  module _ (is : IsTree tree) where
    pub steps-none : (x z : ℕ) → x ≡ z → way_steps tree x z ≡ []
    steps-none x z same = ap (λ (ds : List ℕ). map (step_over tree) ds) (sym (ways_are_unique tree is x z [] (same, (tt, tt))))

    up-is : (x n d : ℕ) → IsFoundOver tree (node_of x) d → step_over tree (back_of d) ≡ step_up (node_of x)
    up-is x n d over =
        let port : start_port tree.links (back_of d) ≡ (node_of x).port = (backs_start tree.links d).1 ∙ over.port in
        let node : end_of tree.links (back_of d) ≡ (node_of x).parent = (backs_end tree.links d).0 ∙ over.parent in
        let arrival : end_port tree.links (back_of d) ≡ (node_of x).parent_port = (backs_end tree.links d).1 ∙ over.parent_port in
        λ i. record { port = port i; node = node i; arrival = arrival i }

    down-is : (z d : ℕ) → IsFoundOver tree (node_of z) d → step_over tree d ≡ step_down (node_of z)
    down-is z d over =
        let port = over.parent_port in
        let node = over.node in
        let arrival = over.port in
        λ i. record { port = port i; node = node i; arrival = arrival i }

    pub steps-up : (x z : ℕ) → IsListed nodes x → IsListed nodes z → place_of nodes z < place_of nodes x →
        way_steps tree x z ≡ step_up (node_of x) ∷ way_steps tree (node_of x).parent z
    steps-up x z x_listed z_listed lt =
        let it = link-of x (place_of nodes z) x_listed lt in
        let rest = path (far (node_of x).parent z) (node_of x).parent z (parent-listed x (place_of nodes z) x_listed lt) z_listed (omega arith) in
        let made = path-up x z it.0 x_listed lt it.1 rest.way rest.is rest.below in
        ap (λ (ds : List ℕ). map (step_over tree) ds) (sym (ways_are_unique tree is x z (back_of it.0 ∷ rest.way) made.0))
        ∙ (λ i. up-is x (place_of nodes z) it.0 it.1 i ∷ map (step_over tree) (ways_are_unique tree is (node_of x).parent z rest.way rest.is i))

    pub steps-down : (x z : ℕ) → IsListed nodes x → IsListed nodes z → place_of nodes x < place_of nodes z →
        way_steps tree x z ≡ way_steps tree x (node_of z).parent ++ step_down (node_of z) ∷ []
    steps-down x z x_listed z_listed lt =
        let it = link-of z (place_of nodes x) z_listed lt in
        let rest = path (far x (node_of z).parent) x (node_of z).parent x_listed (parent-listed z (place_of nodes x) z_listed lt) (omega arith) in
        let made = path-down x z it.0 z_listed lt it.1 rest.way rest.is rest.below in
        ap (λ (ds : List ℕ). map (step_over tree) ds) (sym (ways_are_unique tree is x z (rest.way ++ it.0 ∷ []) made.0))
        ∙ map-append (step_over tree) rest.way (it.0 ∷ [])
        ∙ (λ i. map (step_over tree) (ways_are_unique tree is x (node_of z).parent rest.way rest.is i) ++ down-is z it.0 it.1 i ∷ [])

    -- each node of a way between listed nodes is listed
    below-at : (n : ℕ) (front : List ℕ) (d : ℕ) (rest : List ℕ) → IsBelow nodes n (map (end_of tree.links) (front ++ d ∷ rest)) → place_of nodes (end_of tree.links d) ≤ n
    below-at n [] d rest below = below.0
    below-at n (e ∷ front) d rest below = below-at n front d rest below.1

    pub way-found : (x z : ℕ) → IsListed nodes x → IsListed nodes z → IsWay tree.links x z (way_of tree.links x z)
    way-found x z x_listed z_listed =
        let it = path (far x z) x z x_listed z_listed (omega arith) in
        subst (λ (ds : List ℕ). IsWay tree.links x z ds) (ways_are_unique tree is x z it.way it.is) it.is

    pub way-listed : (x z : ℕ) → IsListed nodes x → IsListed nodes z → (front : List ℕ) (d : ℕ) (rest : List ℕ) → way_of tree.links x z ≡ front ++ d ∷ rest →
        IsListed nodes (end_of tree.links d)
    way-listed x z x_listed z_listed front d rest along =
        let it = path (far x z) x z x_listed z_listed (omega arith) in
        let below = subst (λ (ds : List ℕ). IsBelow nodes (max (place_of nodes x) (place_of nodes z)) (passed tree.links x ds)) (ways_are_unique tree is x z it.way it.is ∙ along) it.below in
        let at = below-at (max (place_of nodes x) (place_of nodes z)) front d rest below.1 in
        omega (arith, at, x_listed, z_listed)
