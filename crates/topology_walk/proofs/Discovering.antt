-- A walk from a host.
use Rattle.std.proofs.Common.{◌≡◌, ℕ, ◌<◌, Bool, true, false, List, [], ◌∷◌, length, refl, sym, ◌∙◌, ap, subst, arith, get_or, if◌then◌else◌}
use Rattle.std.specs.Prelude.{Option, Some, None, filter_map, is_some, unwrap_or}
use Rattle.std.specs.List.{flat_map}
use Rattle.std.specs.Option.{option_and_then, option_map_or}
use Rattle.block_registers.specs.Registers.{Registers}
use Rattle.chdr_words.specs.declared.epid.Epid.{Epid}
use Rattle.chdr_words.specs.declared.node_info.NodeKind.TheVariants as kinds
use Rattle.net_topology.specs.Links.{link_at}
use Rattle.net_topology.specs.Tree.{FitsPlan, IsTree, node_with, ports_of}
use Rattle.net_topology.specs.declared.plan.NodePlan.{NodePlan}
use Rattle.net_topology.specs.declared.plan.NodePlan.TheVariants.{Crossbar, Adapter, Host, Endpoint}
use Rattle.net_topology.specs.declared.plan.Plan.{Plan}
use Rattle.net_topology.proofs.Laws.{epids_name_nodes}
use Rattle.net_machine.specs.Nodes.{host_at, host_with, is_host, is_host_at, own_epid, planned}
use Rattle.net_machine.specs.Plans.{no_epid}
use Rattle.fabric_net.specs.NetView.{NetSeen}
use Rattle.found_nodes.specs.Found.{AreFound, no_node}
use Rattle.topology_walk.specs.declared.walk.Walk.{Walk}
use Rattle.topology_walk.specs.Discovery.{HasWalked, IsDiscoveredFrom, StandsAlone}
use Rattle.topology_walk.specs.Nodes.{first_found, kind_of, ports_behind}
use Rattle.topology_walk.specs.Probes.{IsFoundBy, finding}
use Rattle.topology_walk.specs.Walks.{AreKnown, IsKnown, IsSource, WalksOn, walk_from}
use Rattle.topology_walk.specs.Whole.{AreAllNodes}
use Rattle.topology_walk.proofs.Agreeing.{found-of}
use Rattle.topology_walk.proofs.Alone.{alone-of}
use Rattle.topology_walk.proofs.Belonging.{alone-found, are-found}
use Rattle.topology_walk.proofs.Finding.{Known, known-all}
use Rattle.topology_walk.proofs.Knowing.{host-there}
use Rattle.topology_walk.proofs.Whole.{whole-tree}
use Rattle.walk_books.specs.declared.found.Found.{Found}
use Rattle.walk_books.specs.declared.found.FoundNode.{FoundNode}

-- ---- the host

some-same : {A : Type 0} (x y : A) → ◌≡◌ {A = Option A} (Some x) (Some y) → x ≡ y
some-same x y is = ap (λ o. unwrap_or o x) is

-- node x is the host of an EPID
pub record IsHost (tree : Plan) (src : Epid) (x : ℕ) (has : Bool) : Type 0 where
  pub node : node_with tree.nodes src ≡ Some x
  pub host : is_host_at tree x ≡ true
  pub linked : is_some (link_at tree.links x 0) ≡ has

pub host-is : (tree : Plan) (src : Epid) (x : ℕ) (has : Bool) → host_with tree src ≡ Some (x, has) → IsHost tree src x has
host-is tree src x has is = by_node (node_with tree.nodes src) refl is
  where
    found_at : ℕ → Bool → Option (ℕ × Bool)
    found_at y b = if◌then◌else◌ {A = Option (ℕ × Bool)} b (Some (y, is_some (link_at tree.links y 0))) None

    by_host : (y : ℕ) (b : Bool) → is_host_at tree y ≡ b → node_with tree.nodes src ≡ Some y → found_at y b ≡ Some (x, has) → IsHost tree src x has
    by_host y true host at h =
        let both : (y, is_some (link_at tree.links y 0)) ≡ (x, has) = some-same (y, is_some (link_at tree.links y 0)) (x, has) h in
        let same : y ≡ x = ap (λ (it : ℕ × Bool). it.0) both in
        record {
          node = at ∙ ap (λ z. Some z) same;
          host = ap (is_host_at tree) (sym same) ∙ host;
          linked = ap (λ z. is_some (link_at tree.links z 0)) (sym same) ∙ ap (λ (it : ℕ × Bool). it.1) both;
        }
    by_host y false host at h = let z : ◌≡◌ {A = Option (ℕ × Bool)} None (Some (x, has)) = h in absurd cc

    by_node : (o : Option ℕ) → node_with tree.nodes src ≡ o → option_and_then (host_at tree) o ≡ Some (x, has) → IsHost tree src x has
    by_node None at h = let z : ◌≡◌ {A = Option (ℕ × Bool)} None (Some (x, has)) = h in absurd cc
    by_node (Some y) at h = by_host y (is_host_at tree y) refl at h

own-is : (tree : Plan) (src : Epid) (x : ℕ) → IsTree tree → node_with tree.nodes src ≡ Some x → own_epid tree x ≡ src
own-is tree src x is node = ap (λ (o : Option Epid). unwrap_or o no_epid) ((epids_name_nodes tree is x src).0 node)

pub source-is : (tree : Plan) (src : Epid) (x : ℕ) → IsTree tree → IsHost tree src x true → IsSource tree x src
source-is tree src x is host = record {
  host = host.host;
  own = own-is tree src x is host.node;
  linked = host.linked;
}

-- the node at which a walk begins
host-kind : (o : Option NodePlan) → option_map_or is_host o false ≡ true → kinds.Endpoint ≡ option_map_or kind_of o (kinds.Other 0)
host-kind None h = let z : ◌≡◌ {A = Bool} false true = h in absurd cc
host-kind (Some (Crossbar ports)) h = let z : ◌≡◌ {A = Bool} false true = h in absurd cc
host-kind (Some Adapter) h = let z : ◌≡◌ {A = Bool} false true = h in absurd cc
host-kind (Some (Host own)) h = refl
host-kind (Some (Endpoint own bank)) h = let z : ◌≡◌ {A = Bool} false true = h in absurd cc

host-ports : (o : Option NodePlan) → option_map_or is_host o false ≡ true → 1 ≡ option_map_or ports_of o 0
host-ports None h = let z : ◌≡◌ {A = Bool} false true = h in absurd cc
host-ports (Some (Crossbar ports)) h = let z : ◌≡◌ {A = Bool} false true = h in absurd cc
host-ports (Some Adapter) h = let z : ◌≡◌ {A = Bool} false true = h in absurd cc
host-ports (Some (Host own)) h = refl
host-ports (Some (Endpoint own bank)) h = let z : ◌≡◌ {A = Bool} false true = h in absurd cc

first-is : (tree : Plan) (src : Epid) (x : ℕ) (has : Bool) → IsTree tree → IsHost tree src x has → get_or (walk_from x src).found.nodes 0 no_node ≡ first_found tree x
first-is tree src x has is host =
    let kind = host-kind (planned tree x) host.host in
    let ports = host-ports (planned tree x) host.host in
    let epid = sym (own-is tree src x is host.node) in
    λ i. record { instance = x; kind = kind i; ports = ports i; epid = epid i; parent = x; parent_port = 0; port = 0 }

pub known-first : (tree : Plan) (src : Epid) (x : ℕ) (has : Bool) → IsTree tree → IsHost tree src x has → AreKnown tree x (walk_from x src).found.nodes (walk_from x src).trails
known-first tree src x has is host = record {
  many = refl;
  each = λ k lt.
      let none : k ≡ 0 = omega (arith, lt) in
      subst (λ n. IsKnown tree x (get_or (walk_from x src).found.nodes n no_node) (get_or (walk_from x src).trails n [])) (sym none) first;
  parents = λ k some lt. absurd (omega (arith, some, lt));
}
  where
    first : IsKnown tree x (get_or (walk_from x src).found.nodes 0 no_node) []
    first = record {
      way = [];
      is = (refl, (tt, tt));
      node = first-is tree src x has is host;
      made = refl;
    }

-- ---- the walk

known-of : (tree : Plan) (x : ℕ) (nodes : List FoundNode) (trails : List (List ℕ)) → AreKnown tree x nodes trails → (k : ℕ) → k < length nodes → Known tree x (get_or nodes k no_node)
known-of tree x nodes trails known k lt = let one = known.each k lt in (one.way, one.is, one.node)

pub has-walked : (old now : NetSeen) (banks left : List (Option Registers)) (src : Epid) (x : ℕ) (walk : Walk) → IsTree old.present.tree → IsHost old.present.tree src x true →
    WalksOn old.present.tree src x (flat_map ports_behind walk.found.nodes) (record { walk = walk_from x src; net = old; banks = banks }) (record { walk = walk; net = now; banks = left }) →
    HasWalked old banks src x walk.found now left
has-walked old now banks left src x walk is host walks =
    let tree = old.present.tree in
    let finds : IsFoundBy tree x walks.probes walk.found = record {
      asked = walks.places;
      nodes = walks.nodes ∙ ap (λ (f : FoundNode). f ∷ filter_map (finding tree) walks.probes) (first-is tree src x true is host);
      bare = omega (arith, walks.bare);
      lost = walks.lost;
    } in
    record {
      probes = walks.probes;
      finds = finds;
      of = found-of tree is x (host-there tree x host.host) walks.probes walk.found finds
          (known-all tree x walk.found.nodes (known-of tree x walk.found.nodes walk.trails walks.known));
      written = walks.written;
      each = walks.each;
      settled = walks.settled;
      same = walks.same;
      kept = walks.kept;
    }

pub discovered : (old now : NetSeen) (banks left : List (Option Registers)) (src : Epid) (x : ℕ) (found : Found) → host_with old.present.tree src ≡ Some (x, true) →
    HasWalked old banks src x found now left → IsDiscoveredFrom (host_with old.present.tree src) old banks src found now left
discovered old now banks left src x found is walked =
    subst (λ (o : Option (ℕ × Bool)). IsDiscoveredFrom o old banks src found now left) (sym is) walked

pub alone : (old : NetSeen) (banks : List (Option Registers)) (src : Epid) (x : ℕ) (found : Found) → IsTree old.present.tree → host_with old.present.tree src ≡ Some (x, false) →
    found ≡ record (walk_from x src).found { bare = 1 } → IsDiscoveredFrom (host_with old.present.tree src) old banks src found old banks
alone old banks src x found is at made =
    let tree = old.present.tree in
    let it : StandsAlone old banks x found old banks = record {
      nodes = ap (λ (f : Found). f.nodes) made ∙ ap (λ (f : FoundNode). f ∷ []) (first-is tree src x false is (host-is tree src x false at));
      bare = ap (λ (f : Found). f.bare) made;
      lost = ap (λ (f : Found). f.lost) made;
      net = refl;
      kept = refl;
    } in
    subst (λ (o : Option (ℕ × Bool)). IsDiscoveredFrom o old banks src found old banks) (sym at) it

-- ---- the nodes

none-linked : (o : Option ℕ) → is_some o ≡ false → o ≡ None
none-linked None is = refl
none-linked (Some d) is = let z : ◌≡◌ {A = Bool} true false = is in absurd cc

pub walked-found : (old now : NetSeen) (banks left : List (Option Registers)) (src : Epid) (x : ℕ) (walk : Walk) → IsTree old.present.tree → IsHost old.present.tree src x true →
    WalksOn old.present.tree src x (flat_map ports_behind walk.found.nodes) (record { walk = walk_from x src; net = old; banks = banks }) (record { walk = walk; net = now; banks = left }) →
    AreFound old.present.tree walk.found.nodes
walked-found old now banks left src x walk is host walks =
    let tree = old.present.tree in
    are-found tree x walks.probes walk.found.nodes
    (walks.nodes ∙ ap (λ (f : FoundNode). f ∷ filter_map (finding tree) walks.probes) (first-is tree src x true is host))
    walks.known.parents (known-of tree x walk.found.nodes walk.trails walks.known)

pub host-found : (tree : Plan) (src : Epid) (x : ℕ) (found : Found) → IsTree tree → host_with tree src ≡ Some (x, false) → found ≡ record (walk_from x src).found { bare = 1 } → AreFound tree found.nodes
host-found tree src x found is at made =
    alone-found tree x found.nodes
    (ap (λ (f : Found). f.nodes) made ∙ ap (λ (f : FoundNode). f ∷ []) (first-is tree src x false is (host-is tree src x false at)))

pub walked-whole : (old now : NetSeen) (banks left : List (Option Registers)) (src : Epid) (x : ℕ) (walk : Walk) → IsTree old.present.tree → IsHost old.present.tree src x true →
    WalksOn old.present.tree src x (flat_map ports_behind walk.found.nodes) (record { walk = walk_from x src; net = old; banks = banks }) (record { walk = walk; net = now; banks = left }) →
    FitsPlan old.present.tree → walk.found.lost ≡ [] → AreAllNodes old.present.tree walk.found.nodes
walked-whole old now banks left src x walk is host walks fits none =
    whole-tree old.present.tree x walk.found is fits host.host (has-walked old now banks left src x walk is host walks).of none

pub host-whole : (tree : Plan) (src : Epid) (x : ℕ) (found : Found) → IsTree tree → host_with tree src ≡ Some (x, false) → found ≡ record (walk_from x src).found { bare = 1 } →
    FitsPlan tree → found.lost ≡ [] → AreAllNodes tree found.nodes
host-whole tree src x found is at made fits none =
    let host = host-is tree src x false at in
    whole-tree tree x found is fits host.host
    (alone-of tree x (sym (host-ports (planned tree x) host.host)) (none-linked (link_at tree.links x 0) host.linked) found
    (ap (λ (f : Found). f.nodes) made ∙ ap (λ (f : FoundNode). f ∷ []) (first-is tree src x false is host)) (ap (λ (f : Found). f.bare) made) none) none
