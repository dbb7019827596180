-- Each sound link leaves one part fewer, so a forest has fewer links than nodes.
use Rattle.std.proofs.Common.{◌≡◌, ◌≢◌, ℕ, zero, suc, ◌+◌, ◌<◌, Bool, true, false, cond, eqb, List, inl, inr, sym, ◌∙◌, refl, ap, subst, arith, eq-eqb}
use Rattle.std.proofs.lemmas.Bool.{cases_eq, ne_eqb}
use Rattle.net_topology.specs.declared.plan.LinkPlan.{LinkPlan}
use Rattle.net_topology.specs.Links.{link_of}
use Rattle.net_topology.specs.Parts.{part_of}
use Rattle.net_topology.specs.Ranks.{count_below}
use Rattle.net_topology.proofs.WayLemmas.{Forest, if_same, if_other}

-- what a test counts at one place
abbrev pub one_if : Bool → ℕ
one_if b = cond b 1 0

module _ (links : List LinkPlan) where
  -- a part is named by one of its nodes
  pub part_of-part : (k x : ℕ) → part_of links k (part_of links k x) ≡ part_of links k x
  part_of-part zero x = refl
  part_of-part (suc k) x =
      let new = part_of links k (link_of links k).a in
      let old = part_of links k (link_of links k).b in
      elim (cases_eq (part_of links k x) old) [
        | inl e ↦
            let first : part_of links (suc k) x ≡ new = if_same (part_of links k x) old _ _ e in
            let again : part_of links (suc k) new ≡ new =
            elim (cases_eq (part_of links k new) old) [
              | inl f ↦ if_same (part_of links k new) old _ _ f
              | inr f ↦ if_other (part_of links k new) old _ _ f ∙ part_of-part k (link_of links k).a
            ] in
            ap (part_of links (suc k)) first ∙ again ∙ sym first
        | inr e ↦
            let first : part_of links (suc k) x ≡ part_of links k x = if_other (part_of links k x) old _ _ e in
            let again : part_of links (suc k) (part_of links k x) ≡ part_of links k x =
            if_other (part_of links k (part_of links k x)) old _ _ (λ f. e (sym (part_of-part k x) ∙ f)) ∙ part_of-part k x in
            ap (part_of links (suc k)) first ∙ again ∙ sym first
      ]

  -- the node that names its part
  abbrev pub is_name : ℕ → ℕ → Bool
  is_name k x = eqb (part_of links k x) x

  -- a link takes one name away
  pub is_name-gone : (k : ℕ) → part_of links k (link_of links k).a ≢ part_of links k (link_of links k).b → is_name (suc k) (part_of links k (link_of links k).b) ≡ false
  is_name-gone k ne =
      let old = part_of links k (link_of links k).b in
      ne_eqb (part_of links (suc k) old) old (λ e. ne (sym (if_same (part_of links k old) old _ _ (part_of-part k (link_of links k).b)) ∙ e))

  pub is_name-stays : (k x : ℕ) → x ≢ part_of links k (link_of links k).b → is_name (suc k) x ≡ is_name k x
  is_name-stays k x ne =
      let new = part_of links k (link_of links k).a in
      let old = part_of links k (link_of links k).b in
      elim (cases_eq (part_of links k x) old) [
        | inl e ↦
            elim (cases_eq new x) [
              | inl f ↦ absurd (ne (sym f ∙ sym (part_of-part k (link_of links k).a) ∙ ap (part_of links k) f ∙ e))
              | inr f ↦ ap (λ p. eqb p x) (if_same (part_of links k x) old _ _ e) ∙ ne_eqb new x f ∙ sym (ne_eqb (part_of links k x) x (λ g. ne (sym g ∙ e)))
            ]
        | inr e ↦ ap (λ p. eqb p x) (if_other (part_of links k x) old _ _ e)
      ]

  -- equal tests count the same
  pub count_same : (p q : ℕ → Bool) (n : ℕ) → ((x : ℕ) → x < n → p x ≡ q x) → count_below p n ≡ count_below q n
  count_same p q zero same = refl
  count_same p q (suc n) same =
      let below : count_below p n ≡ count_below q n = count_same p q n (λ x l. same x (omega arith)) in
      let here : one_if (p n) ≡ one_if (q n) = ap one_if (same n (omega arith)) in
      omega arith

  -- a test that differs from another at one place alone, where it fails
  pub count_one_less : (p q : ℕ → Bool) (n y : ℕ) → ((x : ℕ) → x ≢ y → p x ≡ q x) → p y ≡ false → q y ≡ true → y < n → count_below p n + 1 ≡ count_below q n
  count_one_less p q zero y same fails passes h = absurd (omega arith)
  count_one_less p q (suc n) y same fails passes h =
      elim (cases_eq y n) [
        | inl e ↦
            let below : count_below p n ≡ count_below q n = count_same p q n (λ x l. same x (omega arith)) in
            let here : one_if (p n) ≡ 0 = ap one_if (ap p (sym e) ∙ fails) in
            let there : one_if (q n) ≡ 1 = ap one_if (ap q (sym e) ∙ passes) in
            omega arith
        | inr ne ↦
            let below : count_below p n + 1 ≡ count_below q n = count_one_less p q n y same fails passes (omega arith) in
            let here : one_if (p n) ≡ one_if (q n) = ap one_if (same n (λ e. ne (sym e))) in
            omega arith
      ]

  -- the nodes of a link are below n
  abbrev pub Inside : ℕ → ℕ → Type 0
  Inside n k = (j : ℕ) → j < k → ((link_of links j).a < n) × ((link_of links j).b < n)

  -- parts are named by nodes below n
  pub part_of-below : (n k x : ℕ) → Inside n k → x < n → part_of links k x < n
  part_of-below n zero x inside h = h
  part_of-below n (suc k) x inside h =
      let inside' : Inside n k = λ j l. inside j (omega arith) in
      elim (cases_eq (part_of links k x) (part_of links k (link_of links k).b)) [
        | inl e ↦ subst (λ y. y < n) (sym (if_same (part_of links k x) (part_of links k (link_of links k).b) _ _ e)) (part_of-below n k (link_of links k).a inside' (inside k (omega arith)).0)
        | inr e ↦ subst (λ y. y < n) (sym (if_other (part_of links k x) (part_of links k (link_of links k).b) _ _ e)) (part_of-below n k x inside' h)
      ]

  pub count_all : (n : ℕ) → count_below (is_name zero) n ≡ n
  count_all zero = refl
  count_all (suc n) =
      let below : count_below (is_name zero) n ≡ n = count_all n in
      let here : one_if (is_name zero n) ≡ 1 = ap one_if (eq-eqb n n refl) in
      omega arith

  -- the links and the parts are together as many as the nodes
  pub count_names : (n k : ℕ) → Forest links k → Inside n k → count_below (is_name k) n + k ≡ n
  count_names n zero f inside = let all : count_below (is_name zero) n ≡ n = count_all n in omega arith
  count_names n (suc k) f inside =
      let before : count_below (is_name k) n + k ≡ n = count_names n k (λ j l. f j (omega arith)) (λ j l. inside j (omega arith)) in
      let old = part_of links k (link_of links k).b in
      let step : count_below (is_name (suc k)) n + 1 ≡ count_below (is_name k) n =
      count_one_less (is_name (suc k)) (is_name k) n old (λ x ne. is_name-stays k x ne) (is_name-gone k (f k (omega arith))) (eq-eqb (part_of links k old) old (part_of-part k (link_of links k).b)) (part_of-below n k (link_of links k).b (λ j l. inside j (omega arith)) (inside k (omega arith)).1) in
      omega arith
