-- Ways of a tree: their first parts, their last links, and the way back.
use Rattle.std.proofs.Common.{◌≡◌, ℕ, ◌*◌, ◌<◌, true, List, [], ◌∷◌, ◌++◌, length, map, reverse, refl, sym, ◌∙◌, ap, append_assoc}
use Rattle.std.proofs.lemmas.List.{reverse-append}
use Rattle.net_topology.specs.Links.{Avoids, IsWay, NoneTwice, Walks, back_of, end_of, end_port, start_of, start_port}
use Rattle.net_topology.specs.Parts.{way_of}
use Rattle.net_topology.specs.Tree.{FitsPlan, IsTree, port_count}
use Rattle.net_topology.specs.declared.plan.LinkPlan.{LinkPlan}
use Rattle.net_topology.specs.declared.plan.Plan.{Plan}
use Rattle.net_topology.proofs.Laws.{links_join_ports, ways_are_unique, ways_follow, ways_go_on, ways_lead_back}
use Rattle.net_machine.specs.Nodes.{is_switch}
use Rattle.net_walks.specs.Ways.{last_of}
use Rattle.net_walks.proofs.Laws.{backs_end, ways_go_over}

-- ---- lists of links

pub last-split : (d : ℕ) (ds : List ℕ) → (before : List ℕ) × (d ∷ ds ≡ before ++ last_of d ds ∷ [])
last-split d [] = ([], refl)
last-split d (e ∷ ds) =
    let rest = last-split e ds in
    (d ∷ rest.0, ap (λ (es : List ℕ). d ∷ es) rest.1)

head_of : List ℕ → ℕ
head_of [] = 0
head_of (d ∷ ds) = d

pub last-same : (xs ys : List ℕ) (d e : ℕ) → xs ++ d ∷ [] ≡ ys ++ e ∷ [] → d ≡ e
unfolding head_of
last-same xs ys d e is =
    ap head_of (sym (reverse-append xs (d ∷ [])) ∙ ap (λ (zs : List ℕ). reverse zs) is ∙ reverse-append ys (e ∷ []))

pub step-on : (before : List ℕ) (d : ℕ) (ds : List ℕ) → (before ++ d ∷ []) ++ ds ≡ before ++ d ∷ ds
step-on before d ds = append_assoc before (d ∷ []) ds

-- ---- first parts

walks-front : (links : List LinkPlan) (k x z : ℕ) (before : List ℕ) (d : ℕ) (ds : List ℕ) → Walks links k x z (before ++ d ∷ ds) → Walks links k x (end_of links d) (before ++ d ∷ [])
walks-front links k x z [] d ds walk = (walk.0, walk.1, refl)
walks-front links k x z (e ∷ before) d ds walk = (walk.0, walk.1, walks-front links k (end_of links e) z before d ds walk.2)

avoids-front : (links : List LinkPlan) (x : ℕ) (before : List ℕ) (d : ℕ) (ds : List ℕ) → Avoids x (map (end_of links) (before ++ d ∷ ds)) → Avoids x (map (end_of links) (before ++ d ∷ []))
avoids-front links x [] d ds avoids = (avoids.0, tt)
avoids-front links x (e ∷ before) d ds avoids = (avoids.0, avoids-front links x before d ds avoids.1)

once-front : (links : List LinkPlan) (before : List ℕ) (d : ℕ) (ds : List ℕ) → NoneTwice (map (end_of links) (before ++ d ∷ ds)) → NoneTwice (map (end_of links) (before ++ d ∷ []))
once-front links [] d ds once = (tt, tt)
once-front links (e ∷ before) d ds once = (avoids-front links (end_of links e) before d ds once.0, once-front links before d ds once.1)

-- the first part of a way is one
pub way-front : (links : List LinkPlan) (x z : ℕ) (before : List ℕ) (d : ℕ) (ds : List ℕ) → IsWay links x z (before ++ d ∷ ds) → IsWay links x (end_of links d) (before ++ d ∷ [])
way-front links x z before d ds way =
    (walks-front links (length links) x z before d ds way.0, (avoids-front links x before d ds way.1.0, once-front links before d ds way.1.1))

-- and so is what is behind it
pub way-behind : (tree : Plan) (x z : ℕ) (before : List ℕ) (d : ℕ) (ds : List ℕ) → IsWay tree.links x z (before ++ d ∷ ds) → IsWay tree.links (end_of tree.links d) z ds
way-behind tree x z [] d ds way = ways_go_on tree x z d ds way
way-behind tree x z (e ∷ before) d ds way =
    way-behind tree (end_of tree.links e) z before d ds (ways_go_on tree x z e (before ++ d ∷ ds) way)

-- its links are there
pub way-there : (links : List LinkPlan) (x z : ℕ) (before : List ℕ) (d : ℕ) (ds : List ℕ) → IsWay links x z (before ++ d ∷ ds) → d < 2 * length links
way-there links x z before d ds way = walk-there (length links) x before way.0
  where
    walk-there : (k y : ℕ) (front : List ℕ) → Walks links k y z (front ++ d ∷ ds) → d < 2 * k
    walk-there k y [] walk = walk.0
    walk-there k y (e ∷ front) walk = walk-there k (end_of links e) front walk.2

-- ---- where a way comes to a node

-- by this port each way from node x comes to node y
abbrev pub IsHome : Plan → ℕ → ℕ → ℕ → Type 0
IsHome tree x y port = (before : List ℕ) (l : ℕ) → IsWay tree.links x y (before ++ l ∷ []) → end_port tree.links l ≡ port

pub home-by : (tree : Plan) → IsTree tree → (x y : ℕ) (front : List ℕ) (d : ℕ) → IsWay tree.links x y (front ++ d ∷ []) → IsHome tree x y (end_port tree.links d)
home-by tree is x y front d way before l other =
    ap (λ (e : ℕ). end_port tree.links e)
    (last-same before front l d (ways_are_unique tree is x y (before ++ l ∷ []) other ∙ sym (ways_are_unique tree is x y (front ++ d ∷ []) way)))

-- the way back comes by the port of the first link
pub home-back : (tree : Plan) → IsTree tree → (x y d : ℕ) (ds : List ℕ) → x < length tree.nodes → y < length tree.nodes → IsWay tree.links y x (d ∷ ds) →
    IsHome tree x y (start_port tree.links d)
home-back tree is x y d ds there here way before l other =
    let back : way_of tree.links x y ≡ reverse (map back_of ds) ++ back_of d ∷ [] =
    ways_lead_back tree is y x here there
    ∙ ap (λ (es : List ℕ). reverse (map back_of es)) (sym (ways_are_unique tree is y x (d ∷ ds) way))
    ∙ reverse-append (back_of d ∷ []) (map back_of ds) in
    ap (λ (e : ℕ). end_port tree.links e)
    (last-same before (reverse (map back_of ds)) l (back_of d) (ways_are_unique tree is x y (before ++ l ∷ []) other ∙ back))
    ∙ (backs_end tree.links d).1

-- ---- nodes between links

-- the node at which a way goes on from d over e
pub record IsBetween (tree : Plan) (d e : ℕ) : Type 0 where
  pub starts : start_of tree.links e ≡ end_of tree.links d
  pub switch : is_switch tree (end_of tree.links d) ≡ true
  pub here : end_of tree.links d < length tree.nodes
  pub arrival : end_port tree.links d < port_count tree.nodes (end_of tree.links d)
  pub onward : start_port tree.links e < port_count tree.nodes (end_of tree.links d)

pub between : (tree : Plan) → IsTree tree → FitsPlan tree → (a z d e : ℕ) (ds : List ℕ) → d < 2 * length tree.links → IsWay tree.links a z (d ∷ e ∷ ds) → IsBetween tree d e
between tree is fits a z d e ds lt way =
    let next = ways_go_over tree a z d e ds is fits way in
    let ends = links_join_ports tree is d lt in
    record {
      starts = (ways_follow tree a z d e ds way).starts;
      switch = next.switch;
      here = ends.1;
      arrival = ends.3;
      onward = next.port;
    }

-- what is behind some links of a way is one
pub way-rest : (tree : Plan) (x z : ℕ) (before ds : List ℕ) → IsWay tree.links x z (before ++ ds) → (a : ℕ) × IsWay tree.links a z ds
way-rest tree x z [] ds way = (x, way)
way-rest tree x z (e ∷ before) ds way = way-rest tree (end_of tree.links e) z before ds (ways_go_on tree x z e (before ++ ds) way)

-- the last link of a way ends at its last node
pub way-ends : (links : List LinkPlan) (x z d : ℕ) (ds : List ℕ) → IsWay links x z (d ∷ ds) → end_of links (last_of d ds) ≡ z
way-ends links x z d ds way = walk-ends (length links) x d ds way.0
  where
    walk-ends : (k y e : ℕ) (es : List ℕ) → Walks links k y z (e ∷ es) → end_of links (last_of e es) ≡ z
    walk-ends k y e [] walk = walk.2
    walk-ends k y e (f ∷ es) walk = walk-ends k (end_of links e) f es walk.2
