-- The parts are what the links join, and each sound link leaves one part fewer.
use Rattle.std.proofs.Common.{◌≡◌, ◌≢◌, ℕ, zero, suc, ◌+◌, ◌*◌, ◌<◌, List, [], ◌∷◌, ◌⊎◌, inl, inr, sym, ◌∙◌, refl, ap, arith}
use Rattle.std.proofs.lemmas.Bool.{cases_lt}
use Rattle.std.proofs.lemmas.Bool.Decides.{nat_tests}
use Rattle.net_topology.specs.declared.plan.LinkPlan.{LinkPlan}
use Rattle.net_topology.specs.Links.{link_of, start_of, end_of, Walks}
use Rattle.net_topology.specs.Parts.{renamed, part_of}
use Rattle.net_topology.proofs.WalkLemmas.{start_of-even, end_of-even, start_of-odd, end_of-odd}

pub renamed-old : (new old : ℕ) → renamed new old old ≡ new
renamed-old new old = grind (arith, nat_tests)

pub renamed-new : (new old : ℕ) → renamed new old new ≡ new
renamed-new new old = grind (arith, nat_tests)

pub renamed-same : (new old p q : ℕ) → renamed new old p ≡ renamed new old q → p ≢ q → (p ≡ old × q ≡ new) ⊎ (q ≡ old × p ≡ new)
renamed-same new old p q h ne = grind (arith, nat_tests)

module _ (links : List LinkPlan) where
  pub part_of-suc : (k x : ℕ) → part_of links (suc k) x ≡ renamed (part_of links k (link_of links k).a) (part_of links k (link_of links k).b) (part_of links k x)
  part_of-suc k x = refl

  -- what is in one part stays in one part
  pub parts_keep : (k x y : ℕ) → part_of links k x ≡ part_of links k y → part_of links (suc k) x ≡ part_of links (suc k) y
  parts_keep k x y e =
      rw (part_of-suc k x, part_of-suc k y) (ap (renamed (part_of links k (link_of links k).a) (part_of links k (link_of links k).b)) e)

  -- link k brings its nodes into one part
  pub parts_join : (k : ℕ) → part_of links (suc k) (link_of links k).a ≡ part_of links (suc k) (link_of links k).b
  parts_join k =
      let u = part_of links k (link_of links k).a in
      let v = part_of links k (link_of links k).b in
      renamed-new u v ∙ sym (renamed-old u v)

  -- what a link newly brings together was in the parts of its two nodes
  pub parts_split : (k x y : ℕ) → part_of links (suc k) x ≡ part_of links (suc k) y → part_of links k x ≢ part_of links k y → ((part_of links k x ≡ part_of links k (link_of links k).b) × (part_of links k y ≡ part_of links k (link_of links k).a)) ⊎ ((part_of links k y ≡ part_of links k (link_of links k).b) × (part_of links k x ≡ part_of links k (link_of links k).a))
  parts_split k x y e ne =
      renamed-same (part_of links k (link_of links k).a) (part_of links k (link_of links k).b) (part_of links k x) (part_of links k y) e ne

  -- a number below 2 * (k + 1) is below 2 * k, or one of the two above
  pub below_more_links : (d k : ℕ) → d < 2 * suc k → (d < 2 * k) ⊎ ((d ≡ 2 * k) ⊎ (d ≡ 2 * k + 1))
  below_more_links d k h = elim (cases_lt d (2 * k)) [ inl a ↦ inl a | inr b ↦ elim (cases_lt d (2 * k + 1)) [ inl a ↦ inr (inl (omega arith)) | inr c ↦ inr (inr (omega arith)) ] ]

  -- both nodes of a directed link of the first k are in one part
  pub part_of-link : (k d : ℕ) → d < 2 * k → part_of links k (start_of links d) ≡ part_of links k (end_of links d)
  part_of-link zero d h = absurd (omega arith)
  part_of-link (suc k) d h =
      elim (below_more_links d k h) [
        | inl a ↦ parts_keep k (start_of links d) (end_of links d) (part_of-link k d a)
        | inr b ↦ elim b [
          | inl e ↦ rw (e, start_of-even links k, end_of-even links k) (parts_join k)
          | inr e ↦ rw (e, start_of-odd links k, end_of-odd links k) (sym (parts_join k))
        ]
      ]

  -- a walk stays in one part
  pub part_of-walk : (k a b : ℕ) (ds : List ℕ) → Walks links k a b ds → part_of links k a ≡ part_of links k b
  part_of-walk k a b [] p = ap (part_of links k) p
  part_of-walk k a b (d ∷ ds) p =
      ap (part_of links k) (sym p.1) ∙ part_of-link k d p.0 ∙ part_of-walk k (end_of links d) b ds p.2
