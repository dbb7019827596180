-- The way back is the way reversed, and a way never turns back.
use Rattle.std.proofs.Common.{◌≡◌, ◌≢◌, ℕ, zero, suc, ◌+◌, ◌*◌, List, [], ◌∷◌, ◌++◌, map, reverse, inl, inr, sym, ◌∙◌, refl, ap, arith, append_assoc}
use Rattle.std.proofs.lemmas.Bool.{cases_eq}
use Rattle.std.proofs.lemmas.List.{map-append, reverse-append}
use Rattle.net_topology.specs.declared.plan.LinkPlan.{LinkPlan}
use Rattle.net_topology.specs.Links.{link_of, back_of, end_of, NeverTurns, IsWayOver}
use Rattle.net_topology.specs.Parts.{part_of, way_over}
use Rattle.net_topology.proofs.PartLemmas.{parts_split}
use Rattle.net_topology.proofs.WayLemmas.{Forest, way_over-kept, way_over-there, way_over-back}
use Rattle.net_topology.proofs.RankLemmas.{back_of-even, back_of-odd, end_of-back}

-- the walk the other way
abbrev pub reversed : List ℕ → List ℕ
reversed ds = reverse (map back_of ds)

pub reversed-append : (d : ℕ) (ps qs : List ℕ) → reversed (ps ++ d ∷ qs) ≡ reversed qs ++ back_of d ∷ reversed ps
reversed-append d ps qs =
    ap reverse (map-append back_of ps (d ∷ qs))
    ∙ reverse-append (map back_of ps) (back_of d ∷ map back_of qs)
    ∙ ap (λ xs. xs ++ reversed ps) (reverse-append (back_of d ∷ []) (map back_of qs))
    ∙ append_assoc (reversed qs) (back_of d ∷ []) (reversed ps)

module _ (links : List LinkPlan) where
  pub way_over-reversed : (k a b : ℕ) → Forest links k → part_of links k a ≡ part_of links k b → way_over links k b a ≡ reversed (way_over links k a b)
  way_over-reversed zero a b f e = refl
  way_over-reversed (suc k) a b f e =
      let f' : Forest links k = λ j h. f j (omega arith) in
      let ne : part_of links k (link_of links k).a ≢ part_of links k (link_of links k).b = f k (omega arith) in
      elim (cases_eq (part_of links k a) (part_of links k b)) [
        | inl same ↦ way_over-kept links k b a (sym same) ∙ way_over-reversed k a b f' same ∙ ap reversed (sym (way_over-kept links k a b same))
        | inr other ↦ elim (parts_split links k a b e other) [
          | inl s ↦
              way_over-there links k b a (λ x. other (sym x)) s.1
              ∙ ap (λ xs. xs ++ 2 * k ∷ way_over links k (link_of links k).b a) (way_over-reversed k (link_of links k).a b f' (sym s.1))
              ∙ ap (λ xs. reversed (way_over links k (link_of links k).a b) ++ 2 * k ∷ xs) (way_over-reversed k a (link_of links k).b f' s.0)
              ∙ ap (λ x. reversed (way_over links k (link_of links k).a b) ++ x ∷ reversed (way_over links k a (link_of links k).b)) (sym (back_of-odd k))
              ∙ sym (reversed-append (2 * k + 1) (way_over links k a (link_of links k).b) (way_over links k (link_of links k).a b))
              ∙ ap reversed (sym (way_over-back links k a b other (λ x. ne (sym x ∙ s.0))))
          | inr s ↦
              way_over-back links k b a (λ x. other (sym x)) (λ x. ne (sym x ∙ s.0))
              ∙ ap (λ xs. xs ++ (2 * k + 1) ∷ way_over links k (link_of links k).a a) (way_over-reversed k (link_of links k).b b f' (sym s.0))
              ∙ ap (λ xs. reversed (way_over links k (link_of links k).b b) ++ (2 * k + 1) ∷ xs) (way_over-reversed k a (link_of links k).a f' s.1)
              ∙ ap (λ x. reversed (way_over links k (link_of links k).b b) ++ x ∷ reversed (way_over links k a (link_of links k).a)) (sym (back_of-even k))
              ∙ sym (reversed-append (2 * k) (way_over links k a (link_of links k).a) (way_over links k (link_of links k).b b))
              ∙ ap reversed (sym (way_over-there links k a b other s.1))
        ]
      ]

  -- a way doesn't go back by the link that it came by: it would come to that link's start again
  pub NeverTurns-way : (k a b : ℕ) (ds : List ℕ) → IsWayOver links k a b ds → NeverTurns ds
  NeverTurns-way k a b [] w = tt
  NeverTurns-way k a b (d ∷ []) w = tt
  NeverTurns-way k a b (d ∷ e ∷ ds) w =
      ((λ q. w.1.0.1.0 (sym w.0.1 ∙ sym (end_of-back links d) ∙ ap (end_of links) (sym q))), NeverTurns-way k (end_of links d) b (e ∷ ds) (w.0.2, w.1.1))
