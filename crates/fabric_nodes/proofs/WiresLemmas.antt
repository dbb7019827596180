-- What the look-ups of a tree answer.
use Rattle.std.proofs.Common.{◌≡◌, ◌≢◌, ◌⊎◌, ℕ, zero, suc, ◌+◌, ◌*◌, ◌/◌, ◌%◌, ◌^◌, ◌<◌, ◌≤◌, ◌∙◌, List, length, get_or, refl, sym, ap, subst, inl, inr, arith, below_more, Bool, true, false, cond, Option, Some, None, slice_get, All}
use Rattle.std.specs.Option.{IfSome, option_and_then, option_map_or}
use Rattle.std.specs.Ordering.{is_eq, nat_cmp}
use Rattle.std.proofs.lemmas.Bool.Decides.{nat_tests}
use Rattle.std.proofs.lemmas.List.FromFn.{get_or-map-range_with_len, length-map-range_with_len}
use Rattle.std.proofs.Math.Nat.{pow-le-pow_right}
use Rattle.std.proofs.lemmas.Nat.{one_shl}
use Rattle.std.proofs.lemmas.Option.{get_or_from_slice_get, option_and_then_some, slice_get-get_or, slice_get_within}
use Rattle.chdr_words.specs.declared.epid.Epid.{Epid}
use Rattle.net_topology.proofs.Laws.{epids_name_nodes, links_join_ports, links_leave_by_ports}
use Rattle.net_topology.specs.Links.{link_at, start_of}
use Rattle.net_topology.specs.Tree.{FitsNode, IsChecked, IsTree, epid_at, epid_of, node_with, ports_of}
use Rattle.net_topology.specs.declared.plan.NodePlan.{NodePlan}
use Rattle.net_topology.specs.declared.plan.NodePlan.TheVariants.{Crossbar, Adapter, Host, Endpoint}
use Rattle.net_topology.specs.declared.plan.Plan.{Plan}
use Rattle.fabric_nodes.specs.Lookups.{HoldsBelow, IsHolding, leaving_links}

pub length-leaving : (plan : Plan) → length (leaving_links plan) ≡ 32 * length plan.nodes
length-leaving plan = length-map-range_with_len (λ (i : ℕ). link_at plan.links (i / 32) (i % 32)) 0 (32 * length plan.nodes)

-- the link at a port that a node may have
pub leaving-at : (plan : Plan) (x p : ℕ) (d : Option ℕ) → x < length plan.nodes → p < 32 →
    get_or (leaving_links plan) (32 * x + p) d ≡ link_at plan.links x p
leaving-at plan x p d there port =
    let node : (32 * x + p) / 32 ≡ x = omega arith in
    let out : (32 * x + p) % 32 ≡ p = omega arith in
    get_or-map-range_with_len (λ (i : ℕ). link_at plan.links (i / 32) (i % 32)) 0 (32 * length plan.nodes) (32 * x + p) (32 * x + p) d (omega arith) (omega arith)
    ∙ ap (λ (n : ℕ). link_at plan.links n ((32 * x + p) % 32)) node
    ∙ ap (λ (n : ℕ). link_at plan.links x n) out

none-or : (o : Option ℕ) → ((d : ℕ) → o ≡ Some d → ⊥) → o ≡ None
none-or None h = refl
none-or (Some d) h = absurd (h d refl)

ports-most : (node : NodePlan) → FitsNode node → ports_of node ≤ 32
ports-most (Crossbar ports) fits = fits.1
ports-most Adapter fits = omega arith
ports-most (Host epid) fits = omega arith
ports-most (Endpoint epid bank) fits = omega arith

count-most : (nodes : List NodePlan) → All FitsNode nodes → (x : ℕ) (o : Option NodePlan) → slice_get nodes x ≡ o →
    option_map_or ports_of o 0 ≤ 32
count-most nodes all x None e = omega arith
count-most nodes all x (Some node) e =
    ports-most node (subst FitsNode (get_or_from_slice_get nodes x node node e) (all x node (slice_get_within nodes x node e)))

-- no link leaves by a port that no node has
pub no-link : (plan : Plan) → IsChecked plan → (x p : ℕ) → (length plan.nodes ≤ x) ⊎ (32 ≤ p) → link_at plan.links x p ≡ None
no-link plan checked x p out = none-or (link_at plan.links x p) (λ d e.
    let leaves = links_leave_by_ports plan d x p e in
    let joins = links_join_ports plan checked.tree d leaves.2 in
    let most = count-most plan.nodes checked.fits.nodes (start_of plan.links d) _ refl in
    elim out [ inl h ↦ omega (arith, leaves.0, joins.0) | inr h ↦ omega (arith, leaves.1, joins.2, most) ])

-- a link that is found is there
pub link-there : (plan : Plan) (x p d : ℕ) → link_at plan.links x p ≡ Some d → d < 2 * length plan.links
link-there plan x p d e = (links_leave_by_ports plan d x p e).2

same_or_not : (a b : ℕ) → (a ≡ b) ⊎ (a ≢ b)
same_or_not zero zero = inl refl
same_or_not zero (suc b) = inr (λ e. omega arith)
same_or_not (suc a) zero = inr (λ e. omega arith)
same_or_not (suc a) (suc b) = elim (same_or_not a b) [ inl e ↦ inl (ap suc e) | inr ne ↦ inr (λ e. ne (omega arith)) ]

at-same : (a : ℕ) → is_eq (nat_cmp a a) ≡ true
at-same a = grind (arith, nat_tests)

at-other : (a b : ℕ) → a ≢ b → is_eq (nat_cmp a b) ≡ false
at-other a b ne = grind (arith, nat_tests)

-- a node without an EPID leaves all as it was
pub holding-skip : (nodes : List NodePlan) (held : ℕ → Option ℕ) (n : ℕ) (epid : Epid) → HoldsBelow nodes held n epid →
    epid_at nodes n ≡ None → HoldsBelow nodes held (n + 1) epid
holding-skip nodes held n epid h none =
    elim h [ inl e ↦ inl e | inr w ↦ inr (w.0, below_more (λ (x : ℕ). epid_at nodes x ≡ Some epid → ⊥) n w.1 (λ e. absurd cc)) ]

-- a node's EPID is held
pub holding-more : (nodes : List NodePlan) (old new : ℕ → Option ℕ) (n y : ℕ) (own epid : Epid) → epid_at nodes n ≡ Some own →
    node_with nodes own ≡ Some y → new epid.0 ≡ cond (is_eq (nat_cmp own.0 epid.0)) (Some y) (old epid.0) →
    HoldsBelow nodes old n epid → HoldsBelow nodes new (n + 1) epid
holding-more nodes old new n y own epid at with is h = elim (same_or_not own.0 epid.0) [
  | inl e ↦
      let same : own ≡ epid = ap (λ (k : ℕ). let made : Epid = record { 0 = k } in made) e in
      let test : is_eq (nat_cmp own.0 epid.0) ≡ true = subst (λ (k : ℕ). is_eq (nat_cmp own.0 k) ≡ true) e (at-same own.0) in
      let found : new epid.0 ≡ Some y = is ∙ ap (λ (b : Bool). cond b (Some y) (old epid.0)) test in
      inl (found ∙ sym with ∙ ap (λ (k : Epid). node_with nodes k) same)
  | inr ne ↦
      let kept : new epid.0 ≡ old epid.0 = is ∙ ap (λ (b : Bool). cond b (Some y) (old epid.0)) (at-other own.0 epid.0 ne) in
      elim h [
        | inl e ↦ inl (kept ∙ e)
        | inr w ↦ inr (
          kept ∙ w.0,
          below_more (λ (x : ℕ). epid_at nodes x ≡ Some epid → ⊥) n w.1
              (λ e. let same : own ≡ epid = cc in ne (ap (λ (k : Epid). k.0) same)),
        )
      ]
]

-- once all nodes were looked at, the node of each EPID is held
pub holding-all : (plan : Plan) → IsTree plan → (held : ℕ → Option ℕ) →
    ((epid : Epid) → HoldsBelow plan.nodes held (length plan.nodes) epid) → IsHolding plan.nodes held
holding-all plan tree held h epid = elim (h epid) [
  | inl e ↦ e
  | inr w ↦ w.0 ∙ sym (none-or (node_with plan.nodes epid) (λ x e.
      let at = (epids_name_nodes plan tree x epid).0 e in
      let within : x < length plan.nodes = option_and_then_some epid_of (slice_get plan.nodes x) epid at (λ node is own. slice_get_within plan.nodes x node is) in
      w.1 x within at))
]

-- one bit more is within 32 bits
pub bits-room : (bits port : ℕ) → bits < 2 ^ port → port < 32 → bits + (1 * 2 ^ port) % 2 ^ 32 < 2 ^ 32
bits-room bits port low within =
    let two : 0 < 2 = omega arith in
    let few : port ≤ 31 = omega arith in
    let most : 2 ^ port ≤ 2 ^ 31 = pow-le-pow_right {n = 2} two {i = port} {j = 31} few in
    let one : (1 * 2 ^ port) % 2 ^ 32 ≡ 2 ^ port = one_shl port 32 (omega arith) in
    omega (arith, most, one)

-- what is found at a port is a link that is there
pub found-there : (plan : Plan) (x p : ℕ) (o : Option ℕ) → o ≡ link_at plan.links x p → IfSome o (λ d. d < 2 * length plan.links)
found-there plan x p None e = tt
found-there plan x p (Some d) e = link-there plan x p d (sym e)

-- the EPID of a node that is read from the list
pub read-epid : (list nodes : List NodePlan) (n : ℕ) (d : NodePlan) (o : Option Epid) → list ≡ nodes → n < length list →
    o ≡ epid_of (get_or list n d) → epid_at nodes n ≡ o
read-epid list nodes n d o same within is = subst (λ (l : List NodePlan). epid_at l n ≡ o) same
    (ap (λ (node : Option NodePlan). option_and_then epid_of node) (slice_get-get_or list n d within) ∙ sym is)

-- an EPID of a node is found
pub found-node : (plan : Plan) → IsTree plan → (n : ℕ) (own : Epid) → epid_at plan.nodes n ≡ Some own → node_with plan.nodes own ≡ None → ⊥
found-node plan tree n own at none = let found = (epids_name_nodes plan tree n own).1 at in absurd cc
