-- A forest has no other way than the program's.
use Rattle.std.proofs.Common.{◌≡◌, ◌≢◌, ℕ, zero, suc, ◌+◌, ◌*◌, ◌<◌, List, [], ◌∷◌, ◌++◌, ◌⊎◌, inl, inr, sym, ◌∙◌, refl, ap, subst, arith}
use Rattle.net_topology.specs.declared.plan.LinkPlan.{LinkPlan}
use Rattle.net_topology.specs.Links.{link_of, start_of, end_of, Walks, Avoids, passed, IsWayOver}
use Rattle.net_topology.specs.Parts.{part_of, way_over}
use Rattle.net_topology.proofs.WalkLemmas.{start_of-even, end_of-even, start_of-odd, end_of-odd}
use Rattle.net_topology.proofs.PartLemmas.{below_more_links, part_of-walk}
use Rattle.net_topology.proofs.WayLemmas.{Avoids-front, passed-append, Forest, way_over-kept, way_over-there, way_over-back}

-- the walk crosses by one directed link, from a way on its one side to a way on its other
pub record Crosses (links : List LinkPlan) (k a b u v d : ℕ) (ds : List ℕ) : Type 0 where
  pub front : List ℕ
  pub behind : List ℕ
  pub is : ds ≡ front ++ d ∷ behind
  pub first : IsWayOver links k a u front
  pub then : IsWayOver links k v b behind

-- a walk that avoids a node of the last link doesn't use that link
pub walk_without : (links : List LinkPlan) (k x y u : ℕ) (ds : List ℕ) → (u ≡ (link_of links k).a) ⊎ (u ≡ (link_of links k).b) → Walks links (suc k) x y ds → Avoids u (passed links x ds) → Walks links k x y ds
walk_without links k x y u [] t w n = w
walk_without links k x y u (d ∷ ds) t w n =
    elim (below_more_links links d k w.0) [
      | inl h ↦ (h, w.1, walk_without links k (end_of links d) y u ds t w.2 n.1)
      | inr c ↦ elim c [
        | inl e ↦
            let s : (link_of links k).a ≡ x = sym (start_of-even links k) ∙ ap (start_of links) (sym e) ∙ w.1 in
            let f : (link_of links k).b ≡ end_of links d = sym (end_of-even links k) ∙ ap (end_of links) (sym e) in
            elim t [ inl q ↦ absurd (n.0 (q ∙ s)) | inr q ↦ absurd (n.1.0 (q ∙ f)) ]
        | inr e ↦
            let s : (link_of links k).b ≡ x = sym (start_of-odd links k) ∙ ap (start_of links) (sym e) ∙ w.1 in
            let f : (link_of links k).a ≡ end_of links d = sym (end_of-odd links k) ∙ ap (end_of links) (sym e) in
            elim t [ inl q ↦ absurd (n.1.0 (q ∙ f)) | inr q ↦ absurd (n.0 (q ∙ s)) ]
      ]
    ]

-- one more link before a crossing
pub crosses_later : (links : List LinkPlan) (k a b u v d e : ℕ) (ds : List ℕ) → e < 2 * k → start_of links e ≡ a → Avoids a (passed links (end_of links e) ds) → Crosses links k (end_of links e) b u v d ds → Crosses links k a b u v d (e ∷ ds)
crosses_later links k a b u v d e ds h s n c =
    let all : Avoids a (passed links (end_of links e) (c.front ++ d ∷ c.behind)) = subst (λ xs. Avoids a (passed links (end_of links e) xs)) c.is n in
    let apart : Avoids a (passed links (end_of links e) c.front) = Avoids-front a (passed links (end_of links e) c.front) (passed links (end_of links d) c.behind) (subst (Avoids a) (passed-append links (end_of links e) d c.front c.behind) all) in
    record {
      front = e ∷ c.front;
      behind = c.behind;
      is = ap (λ xs. e ∷ xs) c.is;
      first = ((h, s, c.first.0), (apart, c.first.1));
      then = c.then;
    }

-- a crossing at once
pub crosses_now : (links : List LinkPlan) (k a b u v d e : ℕ) (ds : List ℕ) → e ≡ d → u ≡ a → v ≡ end_of links e → IsWayOver links k (end_of links e) b ds → Crosses links k a b u v d (e ∷ ds)
crosses_now links k a b u v d e ds q s f w =
    record {
      front = [];
      behind = ds;
      is = ap (λ x. x ∷ ds) q;
      first = (sym s, (tt, tt));
      then = subst (λ x. IsWayOver links k x b ds) (sym f) w;
    }

-- a way over one more link is one over the links before, or crosses by it, there or back
pub way_cases : (links : List LinkPlan) (k a b : ℕ) (ds : List ℕ) → IsWayOver links (suc k) a b ds → IsWayOver links k a b ds ⊎ (Crosses links k a b (link_of links k).a (link_of links k).b (2 * k) ds ⊎ Crosses links k a b (link_of links k).b (link_of links k).a (2 * k + 1) ds)
way_cases links k a b [] w = inl (w.0, w.1)
way_cases links k a b (d ∷ ds) w =
    elim (below_more_links links d k w.0.0) [
      | inl h ↦ elim (way_cases links k (end_of links d) b ds (w.0.2, w.1.1)) [
        | inl q ↦ inl ((h, w.0.1, q.0), w.1)
        | inr c ↦ elim c [
          | inl q ↦ inr (inl (crosses_later links k a b (link_of links k).a (link_of links k).b (2 * k) d ds h w.0.1 w.1.0 q))
          | inr q ↦ inr (inr (crosses_later links k a b (link_of links k).b (link_of links k).a (2 * k + 1) d ds h w.0.1 w.1.0 q))
        ]
      ]
      | inr c ↦ elim c [
        | inl e ↦
            let s : (link_of links k).a ≡ a = sym (start_of-even links k) ∙ ap (start_of links) (sym e) ∙ w.0.1 in
            let f : (link_of links k).b ≡ end_of links d = sym (end_of-even links k) ∙ ap (end_of links) (sym e) in
            inr (inl (crosses_now links k a b (link_of links k).a (link_of links k).b (2 * k) d ds e s f (walk_without links k (end_of links d) b a ds (inl (sym s)) w.0.2 w.1.0, w.1.1)))
        | inr e ↦
            let s : (link_of links k).b ≡ a = sym (start_of-odd links k) ∙ ap (start_of links) (sym e) ∙ w.0.1 in
            let f : (link_of links k).a ≡ end_of links d = sym (end_of-odd links k) ∙ ap (end_of links) (sym e) in
            inr (inr (crosses_now links k a b (link_of links k).b (link_of links k).a (2 * k + 1) d ds e s f (walk_without links k (end_of links d) b a ds (inr (sym s)) w.0.2 w.1.0, w.1.1)))
      ]
    ]

-- each way in a forest is the program's
pub way_is : (links : List LinkPlan) (k a b : ℕ) (ds : List ℕ) → Forest links k → IsWayOver links k a b ds → ds ≡ way_over links k a b
way_is links zero a b [] f w = refl
way_is links zero a b (d ∷ ds) f w = absurd (omega (arith, w.0.0))
way_is links (suc k) a b ds f w =
    let f' : Forest links k = λ j h. f j (omega arith) in
    let ne : part_of links k (link_of links k).a ≢ part_of links k (link_of links k).b = f k (omega arith) in
    elim (way_cases links k a b ds w) [
      | inl q ↦ way_is links k a b ds f' q ∙ sym (way_over-kept links k a b (part_of-walk links k a b ds q.0))
      | inr c ↦ elim c [
        | inl q ↦
            let s = part_of-walk links k a (link_of links k).a q.front q.first.0 in
            let t = part_of-walk links k (link_of links k).b b q.behind q.then.0 in
            let apart : part_of links k a ≢ part_of links k b = λ x. ne (sym s ∙ x ∙ sym t) in
            q.is ∙ ap (λ xs. xs ++ 2 * k ∷ q.behind) (way_is links k a (link_of links k).a q.front f' q.first) ∙ ap (λ xs. way_over links k a (link_of links k).a ++ 2 * k ∷ xs) (way_is links k (link_of links k).b b q.behind f' q.then) ∙ sym (way_over-there links k a b apart s)
        | inr q ↦
            let s = part_of-walk links k a (link_of links k).b q.front q.first.0 in
            let t = part_of-walk links k (link_of links k).a b q.behind q.then.0 in
            let apart : part_of links k a ≢ part_of links k b = λ x. ne (t ∙ sym x ∙ s) in
            q.is ∙ ap (λ xs. xs ++ (2 * k + 1) ∷ q.behind) (way_is links k a (link_of links k).b q.front f' q.first) ∙ ap (λ xs. way_over links k a (link_of links k).b ++ (2 * k + 1) ∷ xs) (way_is links k (link_of links k).a b q.behind f' q.then) ∙ sym (way_over-back links k a b apart (λ x. ne (sym x ∙ s)))
      ]
    ]
