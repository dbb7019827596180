-- The way between two nodes of one part: the program's walk is one, and there is no other.
use Rattle.std.proofs.Common.{◌≡◌, ◌≢◌, ℕ, zero, suc, ◌+◌, ◌*◌, ◌<◌, cond, eqb, List, [], ◌∷◌, ◌++◌, inl, inr, sym, ◌∙◌, ap, subst, arith, eq-eqb}
use Rattle.std.proofs.lemmas.Bool.{cases_eq, ne_eqb}
use Rattle.std.proofs.lemmas.List.{map-append}
use Rattle.net_topology.specs.declared.plan.LinkPlan.{LinkPlan}
use Rattle.net_topology.specs.Links.{link_of, start_of, end_of, Walks, Avoids, NoneTwice, passed, IsWayOver}
use Rattle.net_topology.specs.Parts.{part_of, way_over}
use Rattle.net_topology.proofs.WalkLemmas.{Walks-append, Walks-wider, start_of-even, end_of-even, start_of-odd, end_of-odd}
use Rattle.net_topology.proofs.PartLemmas.{parts_split, part_of-walk}

pub if_same : {A : Type 0} (x y : ℕ) (s t : A) → x ≡ y → cond (eqb x y) s t ≡ s
if_same x y s t e = ap (λ b. cond b s t) (eq-eqb x y e)

pub if_other : {A : Type 0} (x y : ℕ) (s t : A) → x ≢ y → cond (eqb x y) s t ≡ t
if_other x y s t e = ap (λ b. cond b s t) (ne_eqb x y e)

-- the nodes of the first list are none of the second's
abbrev pub Apart : List ℕ → List ℕ → Type 0
Apart [] ys = Unit {0}
Apart (x ∷ xs) ys = Avoids x ys × Apart xs ys

pub Avoids-append : (x : ℕ) (xs ys : List ℕ) → Avoids x xs → Avoids x ys → Avoids x (xs ++ ys)
Avoids-append x [] ys p q = q
Avoids-append x (y ∷ xs) ys p q = (p.0, Avoids-append x xs ys p.1 q)

pub Avoids-front : (x : ℕ) (xs ys : List ℕ) → Avoids x (xs ++ ys) → Avoids x xs
Avoids-front x [] ys p = tt
Avoids-front x (y ∷ xs) ys p = (p.0, Avoids-front x xs ys p.1)

pub NoneTwice-append : (xs ys : List ℕ) → NoneTwice xs → NoneTwice ys → Apart xs ys → NoneTwice (xs ++ ys)
NoneTwice-append [] ys p q r = q
NoneTwice-append (x ∷ xs) ys p q r = (Avoids-append x xs ys p.0 r.0, NoneTwice-append xs ys p.1 q r.1)

pub passed-append : (links : List LinkPlan) (a d : ℕ) (ps qs : List ℕ) → passed links a (ps ++ d ∷ qs) ≡ passed links a ps ++ passed links (end_of links d) qs
passed-append links a d ps qs = ap (λ xs. a ∷ xs) (map-append (end_of links) ps (d ∷ qs))

-- no link joins what earlier links have joined
abbrev pub Forest : List LinkPlan → ℕ → Type 0
Forest links k = (j : ℕ) → j < k → part_of links j (link_of links j).a ≢ part_of links j (link_of links j).b

-- all these nodes are in one part
abbrev pub InPart : List LinkPlan → ℕ → ℕ → List ℕ → Type 0
InPart links k p [] = Unit {0}
InPart links k p (x ∷ xs) = (part_of links k x ≡ p) × InPart links k p xs

pub InPart-walk : (links : List LinkPlan) (k a b : ℕ) (ds : List ℕ) → Walks links k a b ds → InPart links k (part_of links k b) (passed links a ds)
InPart-walk links k a b [] w = (ap (part_of links k) w, tt)
InPart-walk links k a b (d ∷ ds) w = (part_of-walk links k a b (d ∷ ds) w, InPart-walk links k (end_of links d) b ds w.2)

pub Avoids-part : (links : List LinkPlan) (k x q : ℕ) (ys : List ℕ) → InPart links k q ys → part_of links k x ≢ q → Avoids x ys
Avoids-part links k x q [] p ne = tt
Avoids-part links k x q (y ∷ ys) p ne = ((λ e. ne (ap (part_of links k) e ∙ p.0)), Avoids-part links k x q ys p.1 ne)

pub Apart-parts : (links : List LinkPlan) (k p q : ℕ) (xs ys : List ℕ) → InPart links k p xs → InPart links k q ys → p ≢ q → Apart xs ys
Apart-parts links k p q [] ys a b ne = tt
Apart-parts links k p q (x ∷ xs) ys a b ne =
    (Avoids-part links k x q ys b (λ e. ne (sym a.0 ∙ e)), Apart-parts links k p q xs ys a.1 b ne)

-- two walks, joined by a link
pub walk_across : (links : List LinkPlan) (k a b u v d : ℕ) (ps qs : List ℕ) → d < 2 * suc k → start_of links d ≡ u → end_of links d ≡ v → Walks links k a u ps → Walks links k v b qs → Walks links (suc k) a b (ps ++ d ∷ qs)
walk_across links k a b u v d ps qs h s e p q =
    let back : Walks links k (end_of links d) b qs = subst (λ x. Walks links k x b qs) (sym e) q in
    Walks-append links (suc k) a u b ps (d ∷ qs) (Walks-wider links k a u ps p) (h, s, Walks-wider links k (end_of links d) b qs back)

-- two ways in different parts, joined by a link from the end of the first to the start of the second
pub way_across : (links : List LinkPlan) (k a b u v d : ℕ) (ps qs : List ℕ) → d < 2 * suc k → start_of links d ≡ u → end_of links d ≡ v → part_of links k u ≢ part_of links k v → IsWayOver links k a u ps → IsWayOver links k v b qs → IsWayOver links (suc k) a b (ps ++ d ∷ qs)
way_across links k a b u v d ps qs h s e ne p q =
    let apart = Apart-parts links k (part_of links k u) (part_of links k b) (passed links a ps) (passed links v qs) (InPart-walk links k a u ps p.0) (InPart-walk links k v b qs q.0) (λ x. ne (x ∙ sym (part_of-walk links k v b qs q.0))) in (
      walk_across links k a b u v d ps qs h s e p.0 q.0,
      subst NoneTwice (sym (passed-append links a d ps qs ∙ ap (λ x. passed links a ps ++ passed links x qs) e)) (NoneTwice-append (passed links a ps) (passed links v qs) p.1 q.1 apart),
    )

-- a way over fewer links is one over more
pub IsWayOver-wider : (links : List LinkPlan) (k a b : ℕ) (ds : List ℕ) → IsWayOver links k a b ds → IsWayOver links (suc k) a b ds
IsWayOver-wider links k a b ds w = (Walks-wider links k a b ds w.0, w.1)

module _ (links : List LinkPlan) where
  -- the three cases of the program
  pub way_over-kept : (k a b : ℕ) → part_of links k a ≡ part_of links k b → way_over links (suc k) a b ≡ way_over links k a b
  way_over-kept k a b e = if_same (part_of links k a) (part_of links k b) _ _ e

  pub way_over-there : (k a b : ℕ) → part_of links k a ≢ part_of links k b → part_of links k a ≡ part_of links k (link_of links k).a → way_over links (suc k) a b ≡ way_over links k a (link_of links k).a ++ 2 * k ∷ way_over links k (link_of links k).b b
  way_over-there k a b ne e =
      if_other (part_of links k a) (part_of links k b) _ _ ne ∙ if_same (part_of links k a) (part_of links k (link_of links k).a) _ _ e

  pub way_over-back : (k a b : ℕ) → part_of links k a ≢ part_of links k b → part_of links k a ≢ part_of links k (link_of links k).a → way_over links (suc k) a b ≡ way_over links k a (link_of links k).b ++ (2 * k + 1) ∷ way_over links k (link_of links k).a b
  way_over-back k a b ne e =
      if_other (part_of links k a) (part_of links k b) _ _ ne ∙ if_other (part_of links k a) (part_of links k (link_of links k).a) _ _ e

  -- in a forest the program's walk is a way
  pub way_over_is_way : (k a b : ℕ) → Forest links k → part_of links k a ≡ part_of links k b → IsWayOver links k a b (way_over links k a b)
  way_over_is_way zero a b f e = (e, (tt, tt))
  way_over_is_way (suc k) a b f e =
      let f' : Forest links k = λ j h. f j (omega arith) in
      let ne : part_of links k (link_of links k).a ≢ part_of links k (link_of links k).b = f k (omega arith) in
      elim (cases_eq (part_of links k a) (part_of links k b)) [
        | inl same ↦ subst (IsWayOver links (suc k) a b) (sym (way_over-kept k a b same)) (IsWayOver-wider links k a b (way_over links k a b) (way_over_is_way k a b f' same))
        | inr other ↦ elim (parts_split links k a b e other) [
          | inl s ↦
              subst (IsWayOver links (suc k) a b) (sym (way_over-back k a b other (λ x. ne (sym x ∙ s.0))))
              (way_across links k a b (link_of links k).b (link_of links k).a (2 * k + 1) (way_over links k a (link_of links k).b) (way_over links k (link_of links k).a b) (omega arith) (start_of-odd links k) (end_of-odd links k) (λ x. ne (sym x)) (way_over_is_way k a (link_of links k).b f' s.0) (way_over_is_way k (link_of links k).a b f' (sym s.1)))
          | inr s ↦
              subst (IsWayOver links (suc k) a b) (sym (way_over-there k a b other s.1))
              (way_across links k a b (link_of links k).a (link_of links k).b (2 * k) (way_over links k a (link_of links k).a) (way_over links k (link_of links k).b b) (omega arith) (start_of-even links k) (end_of-even links k) ne (way_over_is_way k a (link_of links k).a f' s.1) (way_over_is_way k (link_of links k).b b f' (sym s.0)))
        ]
      ]

  -- whatever the links, the program's walk leads from a to b
  pub way_over_walks : (k a b : ℕ) → part_of links k a ≡ part_of links k b → Walks links k a b (way_over links k a b)
  way_over_walks zero a b e = e
  way_over_walks (suc k) a b e =
      elim (cases_eq (part_of links k a) (part_of links k b)) [
        | inl same ↦ subst (Walks links (suc k) a b) (sym (way_over-kept k a b same)) (Walks-wider links k a b (way_over links k a b) (way_over_walks k a b same))
        | inr other ↦ elim (parts_split links k a b e other) [
          | inl s ↦ elim (cases_eq (part_of links k a) (part_of links k (link_of links k).a)) [
            | inl x ↦ absurd (other (x ∙ sym s.1))
            | inr x ↦ subst (Walks links (suc k) a b) (sym (way_over-back k a b other x))
                (walk_across links k a b (link_of links k).b (link_of links k).a (2 * k + 1) (way_over links k a (link_of links k).b) (way_over links k (link_of links k).a b) (omega arith) (start_of-odd links k) (end_of-odd links k) (way_over_walks k a (link_of links k).b s.0) (way_over_walks k (link_of links k).a b (sym s.1)))
          ]
          | inr s ↦
              subst (Walks links (suc k) a b) (sym (way_over-there k a b other s.1))
              (walk_across links k a b (link_of links k).a (link_of links k).b (2 * k) (way_over links k a (link_of links k).a) (way_over links k (link_of links k).b b) (omega arith) (start_of-even links k) (end_of-even links k) (way_over_walks k a (link_of links k).a s.1) (way_over_walks k (link_of links k).b b (sym s.0)))
        ]
      ]
