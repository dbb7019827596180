-- The first link of the way over the first k links, found from the last of them down.
use Rattle.std.proofs.Common.{◌≡◌, ◌≢◌, ℕ, zero, suc, ◌+◌, ◌*◌, ◌<◌, true, false, List, [], ◌∷◌, ◌++◌, length, Some, slice_get, inl, inr, sym, ◌∙◌, refl, ap, subst, arith, eqb}
use Rattle.std.proofs.lemmas.Bool.{eqb-true, eqb-false}
use Rattle.std.proofs.Math.Numerals.{add-one}
use Rattle.net_topology.specs.declared.plan.LinkPlan.{LinkPlan}
use Rattle.net_topology.specs.Links.{link_of, Walks}
use Rattle.net_topology.specs.Parts.{part_of, way_over}
use Rattle.net_topology.proofs.PartLemmas.{parts_split}
use Rattle.net_topology.proofs.WayLemmas.{way_over-kept, way_over-there, way_over-back, way_over_walks}

-- a list begins as its front does
pub first_of_front : (xs ys : List ℕ) → 0 < length xs → slice_get (xs ++ ys) 0 ≡ slice_get xs 0
first_of_front [] ys h = absurd (omega (arith, h))
first_of_front (x ∷ xs) ys h = refl

-- the way from a node to itself is empty
pub way_over-self : (links : List LinkPlan) (k a : ℕ) → way_over links k a a ≡ []
way_over-self links zero a = refl
way_over-self links (suc k) a = way_over-kept links k a a refl ∙ way_over-self links k a

pub some_if_apart : (links : List LinkPlan) (k a b : ℕ) (ds : List ℕ) → Walks links k a b ds → a ≢ b → 0 < length ds
some_if_apart links k a b [] w ne = absurd (ne w)
some_if_apart links k a b (d ∷ ds) w ne = omega arith

module _ (links : List LinkPlan) (k j a b : ℕ) (more : k ≡ j + 1) where
  more_suc : k ≡ suc j
  more_suc = more ∙ add-one j

  -- nodes that fewer links join
  pub first_kept : eqb (part_of links j a) (part_of links j b) ≡ true → slice_get (way_over links j a b) 0 ≡ slice_get (way_over links k a b) 0
  first_kept same =
      ap (λ xs. slice_get xs 0) (sym (ap (λ i. way_over links i a b) more_suc ∙ way_over-kept links j a b (eqb-true _ _ same)))

  -- the last link, taken from its first node to its second
  there : eqb (part_of links j a) (part_of links j b) ≡ false → eqb (part_of links j a) (part_of links j (link_of links j).a) ≡ true → way_over links k a b ≡ way_over links j a (link_of links j).a ++ 2 * j ∷ way_over links j (link_of links j).b b
  there other here =
      ap (λ i. way_over links i a b) more_suc ∙ way_over-there links j a b (eqb-false _ _ other) (eqb-true _ _ here)

  pub first_here : (l : LinkPlan) → l ≡ link_of links j → eqb (part_of links j a) (part_of links j b) ≡ false → eqb (part_of links j a) (part_of links j l.a) ≡ true → a ≡ l.a → Some (2 * j) ≡ slice_get (way_over links k a b) 0
  first_here l is other here same =
      let start : way_over links j a (link_of links j).a ≡ [] = ap (way_over links j a) (sym (same ∙ ap (λ (m : LinkPlan). m.a) is)) ∙ way_over-self links j a in
      ap (λ xs. slice_get (xs ++ 2 * j ∷ way_over links j (link_of links j).b b) 0) (sym start)
      ∙ ap (λ xs. slice_get xs 0) (sym (there other (subst (λ m. eqb (part_of links j a) (part_of links j m.a) ≡ true) is here)))

  pub first_there : (l : LinkPlan) → l ≡ link_of links j → eqb (part_of links j a) (part_of links j b) ≡ false → eqb (part_of links j a) (part_of links j l.a) ≡ true → a ≢ l.a → slice_get (way_over links j a l.a) 0 ≡ slice_get (way_over links k a b) 0
  first_there l is other here apart =
      let own : eqb (part_of links j a) (part_of links j (link_of links j).a) ≡ true = subst (λ m. eqb (part_of links j a) (part_of links j m.a) ≡ true) is here in
      let some = some_if_apart links j a (link_of links j).a (way_over links j a (link_of links j).a) (way_over_walks links j a (link_of links j).a (eqb-true _ _ own)) (subst (λ m. a ≢ m.a) is apart) in
      ap (λ m. slice_get (way_over links j a m.a) 0) is
      ∙ sym (first_of_front (way_over links j a (link_of links j).a) (2 * j ∷ way_over links j (link_of links j).b b) some)
      ∙ ap (λ xs. slice_get xs 0) (sym (there other own))

  -- the last link, taken from its second node to its first
  back : eqb (part_of links j a) (part_of links j b) ≡ false → eqb (part_of links j a) (part_of links j (link_of links j).a) ≡ false → way_over links k a b ≡ way_over links j a (link_of links j).b ++ (2 * j + 1) ∷ way_over links j (link_of links j).a b
  back other here =
      ap (λ i. way_over links i a b) more_suc ∙ way_over-back links j a b (eqb-false _ _ other) (eqb-false _ _ here)

  pub back_joined : (l : LinkPlan) → l ≡ link_of links j → part_of links k a ≡ part_of links k b → eqb (part_of links j a) (part_of links j b) ≡ false → eqb (part_of links j a) (part_of links j l.a) ≡ false → part_of links j a ≡ part_of links j l.b
  back_joined l is joined other here =
      elim (parts_split links j a b (subst (λ i. part_of links i a ≡ part_of links i b) more_suc joined) (eqb-false _ _ other)) [
        | inl s ↦ s.0 ∙ ap (λ m. part_of links j m.b) (sym is)
        | inr s ↦ absurd (eqb-false _ _ here (s.1 ∙ ap (λ m. part_of links j m.a) (sym is)))
      ]

  pub first_back_here : (l : LinkPlan) → l ≡ link_of links j → eqb (part_of links j a) (part_of links j b) ≡ false → eqb (part_of links j a) (part_of links j l.a) ≡ false → a ≡ l.b → Some (2 * j + 1) ≡ slice_get (way_over links k a b) 0
  first_back_here l is other here same =
      let start : way_over links j a (link_of links j).b ≡ [] = ap (way_over links j a) (sym (same ∙ ap (λ (m : LinkPlan). m.b) is)) ∙ way_over-self links j a in
      ap (λ xs. slice_get (xs ++ (2 * j + 1) ∷ way_over links j (link_of links j).a b) 0) (sym start)
      ∙ ap (λ xs. slice_get xs 0) (sym (back other (subst (λ m. eqb (part_of links j a) (part_of links j m.a) ≡ false) is here)))

  pub first_back : (l : LinkPlan) → l ≡ link_of links j → part_of links k a ≡ part_of links k b → eqb (part_of links j a) (part_of links j b) ≡ false → eqb (part_of links j a) (part_of links j l.a) ≡ false → a ≢ l.b → slice_get (way_over links j a l.b) 0 ≡ slice_get (way_over links k a b) 0
  first_back l is joined other here apart =
      let own : part_of links j a ≡ part_of links j (link_of links j).b = back_joined l is joined other here ∙ ap (λ m. part_of links j m.b) is in
      let some = some_if_apart links j a (link_of links j).b (way_over links j a (link_of links j).b) (way_over_walks links j a (link_of links j).b own) (subst (λ m. a ≢ m.b) is apart) in
      ap (λ m. slice_get (way_over links j a m.b) 0) is
      ∙ sym (first_of_front (way_over links j a (link_of links j).b) ((2 * j + 1) ∷ way_over links j (link_of links j).a b) some)
      ∙ ap (λ xs. slice_get xs 0) (sym (back other (subst (λ m. eqb (part_of links j a) (part_of links j m.a) ≡ false) is here)))
