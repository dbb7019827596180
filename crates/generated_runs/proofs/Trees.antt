-- A test of plans in which each link leads to a node that no earlier link has: those that pass are trees.
use Rattle.std.proofs.Common.{◌≡◌, ◌∙◌, ℕ, ◌*◌, ◌<◌, Bool, true, not, ◌&&◌, List, [], ◌∷◌, length, Option, None, Some, sym, ap, eq-eqb, eqb-true, ltb-true, leb-true}
use Rattle.std.specs.Prelude.{◌==◌, nat_lt, nat_le}
use Rattle.std.specs.List.{list_all, range_with_len}
use Rattle.std.proofs.lemmas.Bool.{not-true}
use Rattle.chdr_words.specs.declared.epid.Epid.{Epid}
use Rattle.net_topology.specs.declared.plan.LinkPlan.{LinkPlan}
use Rattle.net_topology.specs.declared.plan.NodePlan.{NodePlan}
use Rattle.net_topology.specs.declared.plan.Plan.{Plan}
use Rattle.net_topology.specs.Links.{Walks, end_of, link_of, start_of}
use Rattle.net_topology.specs.Tree.{DistinctBelow, HasPorts, IsCycle, IsPortTwice, IsSound, IsTree, epid_at, port_count, shares_port}
use Rattle.generated_runs.proofs.Tests.{below-passes, left, never, none-some, right, some-same}

-- ---- EPIDs

abbrev pub differ : Option Epid → Option Epid → Bool
differ None b = true
differ (Some a) None = true
differ (Some a) (Some b) = not (a.0 == b.0)

pub differ-never : (a b : Option Epid) (epid : Epid) → differ a b ≡ true → a ≡ Some epid → b ≡ Some epid → ⊥
differ-never None b epid h one two = none-some one
differ-never (Some a) None epid h one two = none-some two
differ-never (Some a) (Some b) epid h one two = never (sym (not-true (a.0 == b.0) h) ∙ same)
  where
    ids : a.0 ≡ b.0
    ids = ap (λ (e : Epid). e.0) (some-same one) ∙ sym (ap (λ (e : Epid). e.0) (some-same two))

    same : (a.0 == b.0) ≡ true
    same = eq-eqb a.0 b.0 ids

abbrev pub is_new : List NodePlan → ℕ → Bool
is_new nodes x = list_all (λ (y : ℕ). differ (epid_at nodes y) (epid_at nodes x)) (range_with_len 0 x)

abbrev pub are_distinct : List NodePlan → Bool
are_distinct nodes = list_all (is_new nodes) (range_with_len 0 (length nodes))

distinct : (nodes : List NodePlan) → are_distinct nodes ≡ true → DistinctBelow nodes (length nodes)
distinct nodes h x epid lt twice =
    let here = below-passes (is_new nodes) (length nodes) h x lt in
    let pair = below-passes (λ (y : ℕ). differ (epid_at nodes y) (epid_at nodes x)) x here twice.0 twice.1 in
    differ-never (epid_at nodes twice.0) (epid_at nodes x) epid pair twice.2 twice.3

-- ---- walks

abbrev pub walks : List LinkPlan → ℕ → ℕ → ℕ → List ℕ → Bool
walks links k a b [] = a == b
walks links k a b (d ∷ ds) = nat_lt d (2 * k) && ((start_of links d == a) && walks links k (end_of links d) b ds)

walks-Walks : (links : List LinkPlan) (k a b : ℕ) (ds : List ℕ) → walks links k a b ds ≡ true → Walks links k a b ds
walks-Walks links k a b [] h = eqb-true a b h
walks-Walks links k a b (d ∷ ds) h =
    let rest = right (nat_lt d (2 * k)) _ h in (
      ltb-true d (2 * k) (left (nat_lt d (2 * k)) _ h),
      eqb-true (start_of links d) a (left (start_of links d == a) _ rest),
      walks-Walks links k (end_of links d) b ds (right (start_of links d == a) _ rest),
    )

-- no walk ends at a node at which no link ends
misses : (links : List LinkPlan) (k a b : ℕ) (ds : List ℕ) → (a ≡ b → ⊥) → ((d : ℕ) → d < 2 * k → end_of links d ≡ b → ⊥)
    → Walks links k a b ds → ⊥
misses links k a b [] apart ends w = apart w
misses links k a b (d ∷ ds) apart ends w = misses links k (end_of links d) b ds (ends d w.0) ends w.2

-- ---- links

abbrev pub has_ports : List NodePlan → LinkPlan → Bool
has_ports nodes l = nat_lt l.a_port (port_count nodes l.a) && nat_lt l.b_port (port_count nodes l.b)

-- no earlier link uses a port of link k
abbrev pub has_free_ports : List LinkPlan → ℕ → Bool
has_free_ports links k = list_all (λ (j : ℕ). not (shares_port (link_of links j) (link_of links k))) (range_with_len 0 k)

-- no earlier link ends at the second node of link k, which isn't its first
abbrev pub leads_on : List LinkPlan → ℕ → Bool
leads_on links k =
    not ((link_of links k).a == (link_of links k).b)
    && list_all (λ (d : ℕ). not (end_of links d == (link_of links k).b)) (range_with_len 0 (2 * k))

abbrev pub is_sound : Plan → ℕ → Bool
is_sound plan k =
    has_ports plan.nodes (link_of plan.links k) && (has_free_ports plan.links k && leads_on plan.links k)

not-same : (a b : ℕ) → not (a == b) ≡ true → a ≡ b → ⊥
not-same a b h e = never (sym (not-true (a == b) h) ∙ eq-eqb a b e)

ports : (nodes : List NodePlan) (l : LinkPlan) → has_ports nodes l ≡ true → HasPorts nodes l
ports nodes l h = (
  ltb-true l.a_port (port_count nodes l.a) (left (nat_lt l.a_port (port_count nodes l.a)) _ h),
  ltb-true l.b_port (port_count nodes l.b) (right (nat_lt l.a_port (port_count nodes l.a)) _ h),
)

once : (links : List LinkPlan) (k : ℕ) → has_free_ports links k ≡ true → IsPortTwice links k → ⊥
once links k h twice =
    let free = below-passes (λ (j : ℕ). not (shares_port (link_of links j) (link_of links k))) k h twice.0 twice.1 in
    never (sym (not-true (shares_port (link_of links twice.0) (link_of links k)) free) ∙ twice.2)

no-cycle : (links : List LinkPlan) (k : ℕ) → leads_on links k ≡ true → IsCycle links k → ⊥
no-cycle links k h joined =
    misses links k (link_of links k).a (link_of links k).b joined.0
    (not-same (link_of links k).a (link_of links k).b (left (not ((link_of links k).a == (link_of links k).b)) _ h))
    (λ d lt. not-same (end_of links d) (link_of links k).b (below-passes (λ (d : ℕ). not (end_of links d == (link_of links k).b)) (2 * k)
    (right (not ((link_of links k).a == (link_of links k).b)) _ h) d lt))
    joined.1

sound : (plan : Plan) (k : ℕ) → is_sound plan k ≡ true → IsSound plan k
sound plan k h =
    let rest = right (has_ports plan.nodes (link_of plan.links k)) _ h in
    record {
      ports = ports plan.nodes (link_of plan.links k) (left (has_ports plan.nodes (link_of plan.links k)) _ h);
      once = once plan.links k (left (has_free_ports plan.links k) _ rest);
      apart = no-cycle plan.links k (right (has_free_ports plan.links k) _ rest);
    }

-- ---- together

-- the plan is a tree, and this is a walk from node 0 to each node
abbrev pub is_tree : Plan → (ℕ → List ℕ) → Bool
is_tree plan walk_to =
    (nat_le (length plan.nodes) plan.limit && are_distinct plan.nodes)
    && (list_all (is_sound plan) (range_with_len 0 (length plan.links))
    && (list_all (λ (x : ℕ). walks plan.links (length plan.links) 0 x (walk_to x)) (range_with_len 0 (length plan.nodes))
    && (nat_le 1 plan.room && nat_le plan.room 64)))

module _ (plan : Plan) (walk_to : ℕ → List ℕ) where
  pub is_tree-IsTree : is_tree plan walk_to ≡ true → IsTree plan
  is_tree-IsTree h =
      let one = left (nat_le (length plan.nodes) plan.limit && are_distinct plan.nodes) _ h in
      let two = right (nat_le (length plan.nodes) plan.limit && are_distinct plan.nodes) _ h in
      let links = left (list_all (is_sound plan) (range_with_len 0 (length plan.links))) _ two in
      let three = right (list_all (is_sound plan) (range_with_len 0 (length plan.links))) _ two in
      let joined = left (list_all (λ (x : ℕ). walks plan.links (length plan.links) 0 x (walk_to x)) (range_with_len 0 (length plan.nodes))) _ three in
      let room = right (list_all (λ (x : ℕ). walks plan.links (length plan.links) 0 x (walk_to x)) (range_with_len 0 (length plan.nodes))) _ three in
      record {
        nodes = record {
          few = leb-true (length plan.nodes) plan.limit (left (nat_le (length plan.nodes) plan.limit) _ one);
          distinct = distinct plan.nodes (right (nat_le (length plan.nodes) plan.limit) _ one);
        };
        links = λ j lt. sound plan j (below-passes (is_sound plan) (length plan.links) links j lt);
        joined = λ x lt. (
          walk_to x,
          walks-Walks plan.links (length plan.links) 0 x (walk_to x)
              (below-passes (λ (x : ℕ). walks plan.links (length plan.links) 0 x (walk_to x)) (length plan.nodes) joined x lt),
        );
        room = (leb-true 1 plan.room (left (nat_le 1 plan.room) _ room), leb-true plan.room 64 (right (nat_le 1 plan.room) _ room));
      }
