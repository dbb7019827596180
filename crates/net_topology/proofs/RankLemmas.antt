-- The rank of directed links falls along every path that never turns back.
use Rattle.std.proofs.Common.{◌≡◌, ◌≢◌, ℕ, zero, suc, ◌+◌, ◌*◌, ◌/◌, ◌%◌, ◌<◌, ◌≤◌, Bool, true, false, cond, List, [], ◌∷◌, ◌++◌, length, ◌⊎◌, inl, inr, sym, ◌∙◌, refl, ap, subst, arith, eq-eqb}
use Rattle.std.proofs.lemmas.Bool.{cases_eq, false≢true, eqb-true}
use Rattle.net_topology.specs.declared.plan.LinkPlan.{LinkPlan}
use Rattle.net_topology.specs.Links.{back_of, start_of, end_of, Avoids, passed, IsWayOver}
use Rattle.net_topology.specs.Parts.{part_of, way_over}
use Rattle.net_topology.specs.Ranks.{count_below, begins_with, is_ahead, MayFollow}
use Rattle.net_topology.proofs.WalkLemmas.{start_of-even, end_of-even, start_of-odd, end_of-odd, rest_even, rest_odd}
use Rattle.net_topology.proofs.WayLemmas.{Forest, way_over_is_way}
use Rattle.net_topology.proofs.UniqueLemmas.{way_is}

-- a number is twice its half, or one more
pub parity : (d : ℕ) → (j : ℕ) × ((d ≡ 2 * j) ⊎ (d ≡ 2 * j + 1))
parity d = (d / 2, elim (cases_eq (d % 2) 0) [ inl e ↦ inl (omega arith) | inr e ↦ inr (omega arith) ])

pub back_of-even : (j : ℕ) → back_of (2 * j) ≡ 2 * j + 1
back_of-even j = rw (rest_even j) refl

pub back_of-odd : (j : ℕ) → back_of (2 * j + 1) ≡ 2 * j
back_of-odd j = rw (rest_odd j) (omega arith)

pub back_below : (d k : ℕ) → d < 2 * k → back_of d < 2 * k
back_below d k h =
    elim (parity d).1 [
      | inl e ↦ rw (e, back_of-even (parity d).0) (omega arith)
      | inr e ↦ rw (e, back_of-odd (parity d).0) (omega arith)
    ]

pub start_of-back : (links : List LinkPlan) (d : ℕ) → start_of links (back_of d) ≡ end_of links d
start_of-back links d =
    elim (parity d).1 [
      | inl e ↦ ap (λ x. start_of links (back_of x)) e ∙ ap (start_of links) (back_of-even (parity d).0) ∙ start_of-odd links (parity d).0 ∙ sym (end_of-even links (parity d).0) ∙ ap (end_of links) (sym e)
      | inr e ↦ ap (λ x. start_of links (back_of x)) e ∙ ap (start_of links) (back_of-odd (parity d).0) ∙ start_of-even links (parity d).0 ∙ sym (end_of-odd links (parity d).0) ∙ ap (end_of links) (sym e)
    ]

pub end_of-back : (links : List LinkPlan) (d : ℕ) → end_of links (back_of d) ≡ start_of links d
end_of-back links d =
    elim (parity d).1 [
      | inl e ↦ ap (λ x. end_of links (back_of x)) e ∙ ap (end_of links) (back_of-even (parity d).0) ∙ end_of-odd links (parity d).0 ∙ sym (start_of-even links (parity d).0) ∙ ap (start_of links) (sym e)
      | inr e ↦ ap (λ x. end_of links (back_of x)) e ∙ ap (end_of links) (back_of-odd (parity d).0) ∙ end_of-even links (parity d).0 ∙ sym (start_of-odd links (parity d).0) ∙ ap (start_of links) (sym e)
    ]

-- the ends of a directed link of a forest differ
pub start_not_end : (links : List LinkPlan) (k d : ℕ) → Forest links k → d < 2 * k → start_of links d ≢ end_of links d
start_not_end links k d f h e =
    let j = (parity d).0 in
    elim (parity d).1 [
      | inl q ↦ f j (omega arith) (ap (part_of links j) (sym (start_of-even links j) ∙ ap (start_of links) (sym q) ∙ e ∙ ap (end_of links) q ∙ end_of-even links j))
      | inr q ↦ f j (omega arith) (ap (part_of links j) (sym (end_of-odd links j) ∙ ap (end_of links) (sym q) ∙ sym e ∙ ap (start_of links) q ∙ start_of-odd links j))
    ]

-- a directed link is the way from its start to its end
pub IsWayOver-one : (links : List LinkPlan) (k d : ℕ) → Forest links k → d < 2 * k → IsWayOver links k (start_of links d) (end_of links d) (d ∷ [])
IsWayOver-one links k d f h = ((h, refl, refl), ((start_not_end links k d f h, tt), (tt, tt)))

-- the front of a way that comes to node y
pub record Visits (links : List LinkPlan) (k a y : ℕ) (ds : List ℕ) : Type 0 where
  pub front : List ℕ
  pub behind : List ℕ
  pub is : ds ≡ front ++ behind
  pub way : IsWayOver links k a y front

pub passed-front : (links : List LinkPlan) (a : ℕ) (ps qs : List ℕ) (x : ℕ) → Avoids x (passed links a (ps ++ qs)) → Avoids x (passed links a ps)
passed-front links a [] qs x n = (n.0, tt)
passed-front links a (p ∷ ps) qs x n = (n.0, passed-front links (end_of links p) ps qs x n.1)

-- a way passes a node, or avoids it
pub visits_or_avoids : (links : List LinkPlan) (k a b y : ℕ) (ds : List ℕ) → IsWayOver links k a b ds → Visits links k a y ds ⊎ Avoids y (passed links a ds)
visits_or_avoids links k a b y [] w =
    elim (cases_eq y a) [
      | inl e ↦ inl (record { front = []; behind = []; is = refl; way = (sym e, (tt, tt)) })
      | inr n ↦ inr (n, tt)
    ]
visits_or_avoids links k a b y (d ∷ ds) w =
    elim (cases_eq y a) [
      | inl e ↦ inl (record { front = []; behind = d ∷ ds; is = refl; way = (sym e, (tt, tt)) })
      | inr n ↦ elim (visits_or_avoids links k (end_of links d) b y ds (w.0.2, w.1.1)) [
        | inl v ↦
            let all : Avoids a (passed links (end_of links d) (v.front ++ v.behind)) = subst (λ xs. Avoids a (passed links (end_of links d) xs)) v.is w.1.0 in
            inl (record {
              front = d ∷ v.front;
              behind = v.behind;
              is = ap (λ xs. d ∷ xs) v.is;
              way = ((w.0.0, w.0.1, v.way.0), (passed-front links (end_of links d) v.front v.behind a all, v.way.1));
            })
        | inr m ↦ inr (n, m)
      ]
    ]

-- a way that begins with e, where e follows d and isn't the way back, goes on from d
pub way_before : (links : List LinkPlan) (k d e x : ℕ) (ws : List ℕ) → Forest links k → d < 2 * k → start_of links e ≡ end_of links d → e ≢ back_of d → IsWayOver links k (end_of links d) x (e ∷ ws) → IsWayOver links k (start_of links d) x (d ∷ e ∷ ws)
way_before links k d e x ws f h s n w =
    elim (visits_or_avoids links k (end_of links d) x (start_of links d) (e ∷ ws) w) [
      | inl v ↦
          let back : IsWayOver links k (end_of links d) (start_of links d) (back_of d ∷ []) =
          subst (λ y. IsWayOver links k y (start_of links d) (back_of d ∷ [])) (start_of-back links d) (subst (λ y. IsWayOver links k (start_of links (back_of d)) y (back_of d ∷ [])) (end_of-back links d) (IsWayOver-one links k (back_of d) f (back_below d k h))) in
          let one : v.front ≡ back_of d ∷ [] = way_is links k (end_of links d) (start_of links d) v.front f v.way ∙ sym (way_is links k (end_of links d) (start_of links d) (back_of d ∷ []) f back) in
          let whole : e ∷ ws ≡ (back_of d ∷ []) ++ v.behind = v.is ∙ ap (λ xs. xs ++ v.behind) one in
          absurd (n cc)
      | inr m ↦ ((h, refl, w.0), (m, w.1))
    ]

-- a list that begins with e
pub begins_with-true : (e : ℕ) (ws : List ℕ) → begins_with e ws ≡ true → (rest : List ℕ) × (ws ≡ e ∷ rest)
begins_with-true e [] h = absurd (false≢true h)
begins_with-true e (x ∷ xs) h = (xs, ap (λ y. y ∷ xs) (eqb-true x e h))

module _ (links : List LinkPlan) (forest : Forest links (length links)) where
  pub ahead_end : (d : ℕ) → d < 2 * length links → is_ahead links d (end_of links d) ≡ true
  ahead_end d h =
      ap (begins_with d) (sym (way_is links (length links) (start_of links d) (end_of links d) (d ∷ []) forest (IsWayOver-one links (length links) d forest h))) ∙ eq-eqb d d refl

  pub ahead_start : (d : ℕ) → is_ahead links d (start_of links d) ≡ false
  ahead_start d =
      ap (begins_with d) (sym (way_is links (length links) (start_of links d) (start_of links d) [] forest (refl, (tt, tt))))

  pub ahead_before : (d e x : ℕ) → d < 2 * length links → MayFollow links d e → part_of links (length links) (end_of links d) ≡ part_of links (length links) x → is_ahead links e x ≡ true → is_ahead links d x ≡ true
  ahead_before d e x h m joined ahead =
      let start : part_of links (length links) (start_of links e) ≡ part_of links (length links) x = ap (part_of links (length links)) m.starts ∙ joined in
      let ws = way_over links (length links) (start_of links e) x in
      let rest = begins_with-true e ws ahead in
      let way : IsWayOver links (length links) (start_of links e) x (e ∷ rest.0) = subst (IsWayOver links (length links) (start_of links e) x) rest.1 (way_over_is_way links (length links) (start_of links e) x forest start) in
      let from_end : IsWayOver links (length links) (end_of links d) x (e ∷ rest.0) = subst (λ y. IsWayOver links (length links) y x (e ∷ rest.0)) m.starts way in
      let longer = way_before links (length links) d e x rest.0 forest h m.starts m.onward from_end in
      ap (begins_with d) (sym (way_is links (length links) (start_of links d) x (d ∷ e ∷ rest.0) forest longer)) ∙ eq-eqb d d refl

-- a test counts each number below the bound at most once
pub count_below-most : (p : ℕ → Bool) (n : ℕ) → count_below p n ≤ n
count_below-most p zero = omega arith
count_below-most p (suc n) =
    let h = count_below-most p n in
    elim (p n) as (λ b. count_below p n + cond b 1 0 ≤ suc n) [ true ↦ omega (arith, h) | false ↦ omega (arith, h) ]

-- one more number counted
pub count_step : (s t : Bool) (m n : ℕ) → (s ≡ true → t ≡ true) → m ≤ n → m + cond s 1 0 ≤ n + cond t 1 0
count_step false false m n h l = omega arith
count_step false true m n h l = omega arith
count_step true true m n h l = omega arith
count_step true false m n h l = absurd (false≢true (h refl))

pub count_step_lt : (s t : Bool) (m n : ℕ) → (s ≡ true → t ≡ true) → m < n → m + cond s 1 0 < n + cond t 1 0
count_step_lt false false m n h l = omega arith
count_step_lt false true m n h l = omega arith
count_step_lt true true m n h l = omega arith
count_step_lt true false m n h l = absurd (false≢true (h refl))

pub count_more : (s t : Bool) (m n : ℕ) → s ≡ false → t ≡ true → m ≤ n → m + cond s 1 0 < n + cond t 1 0
count_more s t m n fails passes l = rw (fails, passes) (omega arith)

-- a test that passes wherever another does counts as much, and more with one more place
pub count_below-le : (p q : ℕ → Bool) (n : ℕ) → ((x : ℕ) → x < n → p x ≡ true → q x ≡ true) → count_below p n ≤ count_below q n
count_below-le p q zero h = omega arith
count_below-le p q (suc n) h =
    count_step (p n) (q n) (count_below p n) (count_below q n) (h n (omega arith)) (count_below-le p q n (λ x l. h x (omega arith)))

pub count_below-lt : (p q : ℕ → Bool) (n y : ℕ) → ((x : ℕ) → x < n → p x ≡ true → q x ≡ true) → y < n → p y ≡ false → q y ≡ true → count_below p n < count_below q n
count_below-lt p q zero y h l fails passes = absurd (omega arith)
count_below-lt p q (suc n) y h l fails passes =
    elim (cases_eq y n) [
      | inl e ↦ count_more (p n) (q n) (count_below p n) (count_below q n) (ap p (sym e) ∙ fails) (ap q (sym e) ∙ passes) (count_below-le p q n (λ x m. h x (omega arith)))
      | inr ne ↦ count_step_lt (p n) (q n) (count_below p n) (count_below q n) (h n (omega arith)) (count_below-lt p q n y (λ x m. h x (omega arith)) (omega arith) fails passes)
    ]
