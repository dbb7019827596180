-- The laws of a tree: its ways, its ranks, and the links at its ports.
use Rattle.std.proofs.Common.{◌≡◌, ℕ, zero, suc, ◌*◌, ◌<◌, Bool, true, false, List, length, map, reverse, ◌⊎◌, inl, inr, sym, ◌∙◌, refl, ap, subst, arith}
use Rattle.std.proofs.lemmas.Bool.{cases_lt, cases_eq}
use Rattle.net_topology.specs.declared.plan.Plan.{Plan}
use Rattle.net_topology.specs.Links.{back_of, start_of, end_of, IsWay}
use Rattle.net_topology.specs.Parts.{part_of, way_of}
use Rattle.net_topology.specs.Ranks.{is_ahead, rank_of, MayFollow}
use Rattle.net_topology.specs.Tree.{IsTree}
use Rattle.net_topology.proofs.WalkLemmas.{start_of-even, end_of-even, start_of-odd, end_of-odd}
use Rattle.net_topology.proofs.PartLemmas.{part_of-walk}
use Rattle.net_topology.proofs.WayLemmas.{Forest}
use Rattle.net_topology.proofs.UniqueLemmas.{way_is}
use Rattle.net_topology.proofs.RankLemmas.{parity, ahead_end, ahead_start, ahead_before, count_below-lt}
use Rattle.net_topology.proofs.BackLemmas.{way_over-reversed}
use Rattle.net_topology.proofs.CheckLemmas.{Forest-from_sound, Inside-from_sound}

-- a test passes, or fails
pub cases_bool : (b : Bool) → (b ≡ true) ⊎ (b ≡ false)
cases_bool true = inl refl
cases_bool false = inr refl

module _ (plan : Plan) (tree : IsTree plan) where
  pub forest : Forest plan.links (length plan.links)
  forest = Forest-from_sound plan (length plan.links) tree.links

  -- all nodes are in one part
  pub one_part : (a b : ℕ) → a < length plan.nodes → b < length plan.nodes → part_of plan.links (length plan.links) a ≡ part_of plan.links (length plan.links) b
  one_part a b p q =
      let x = tree.joined a p in
      let y = tree.joined b q in
      sym (part_of-walk plan.links (length plan.links) 0 a x.0 x.1) ∙ part_of-walk plan.links (length plan.links) 0 b y.0 y.1

  -- the ends of a directed link are nodes
  pub start_there : (d : ℕ) → d < 2 * length plan.links → start_of plan.links d < length plan.nodes
  start_there d h =
      let j = (parity d).0 in
      let ends = Inside-from_sound plan (length plan.links) tree.links j in
      elim (parity d).1 [
        | inl e ↦ subst (λ x. x < length plan.nodes) (sym (ap (start_of plan.links) e ∙ start_of-even plan.links j)) (ends (omega arith)).0
        | inr e ↦ subst (λ x. x < length plan.nodes) (sym (ap (start_of plan.links) e ∙ start_of-odd plan.links j)) (ends (omega arith)).1
      ]

  pub end_there : (d : ℕ) → d < 2 * length plan.links → end_of plan.links d < length plan.nodes
  end_there d h =
      let j = (parity d).0 in
      let ends = Inside-from_sound plan (length plan.links) tree.links j in
      elim (parity d).1 [
        | inl e ↦ subst (λ x. x < length plan.nodes) (sym (ap (end_of plan.links) e ∙ end_of-even plan.links j)) (ends (omega arith)).1
        | inr e ↦ subst (λ x. x < length plan.nodes) (sym (ap (end_of plan.links) e ∙ end_of-odd plan.links j)) (ends (omega arith)).0
      ]

  -- there is no other way
  pub only_way : (a b : ℕ) (ds : List ℕ) → IsWay plan.links a b ds → ds ≡ way_of plan.links a b
  only_way a b ds w = way_is plan.links (length plan.links) a b ds forest w

  -- the way back
  pub back_way : (a b : ℕ) → a < length plan.nodes → b < length plan.nodes → way_of plan.links b a ≡ reverse (map back_of (way_of plan.links a b))
  back_way a b p q = way_over-reversed plan.links (length plan.links) a b forest (one_part a b p q)

  -- a packet that goes on goes down
  pub rank_falls : (d e : ℕ) → d < 2 * length plan.links → MayFollow plan.links d e → rank_of plan e < rank_of plan d
  rank_falls d e h m =
      count_below-lt (is_ahead plan.links e) (is_ahead plan.links d) (length plan.nodes) (end_of plan.links d)
      (λ x l t. ahead_before plan.links forest d e x h m (one_part (end_of plan.links d) x (end_there d h) l) t)
      (end_there d h)
      (subst (λ x. is_ahead plan.links e x ≡ false) m.starts (ahead_start plan.links forest e))
      (ahead_end plan.links forest d h)

  -- a directed link is busy and follows, or it isn't busy where it follows
  pub follows_or_clear : (busy : ℕ → Bool) (d e : ℕ) → ((busy e ≡ true) × MayFollow plan.links d e) ⊎ (MayFollow plan.links d e → busy e ≡ false)
  follows_or_clear busy d e =
      elim (cases_bool (busy e)) [
        | inr f ↦ inr (λ m. f)
        | inl t ↦ elim (cases_lt e (2 * length plan.links)) [
          | inr out ↦ inr (λ m. absurd (omega (arith, m.there)))
          | inl there ↦ elim (cases_eq (start_of plan.links e) (end_of plan.links d)) [
            | inr apart ↦ inr (λ m. absurd (apart m.starts))
            | inl starts ↦ elim (cases_eq e (back_of d)) [
              | inl back ↦ inr (λ m. absurd (m.onward back))
              | inr onward ↦ inl (t, record { there = there; starts = starts; onward = onward })
            ]
          ]
        ]
      ]

  -- below a bound, a busy directed link follows, or none does
  pub busy_or_clear : (busy : ℕ → Bool) (d n : ℕ) → ((e : ℕ) × (busy e ≡ true) × MayFollow plan.links d e) ⊎ ((e : ℕ) → e < n → MayFollow plan.links d e → busy e ≡ false)
  busy_or_clear busy d zero = inr (λ e l m. absurd (omega arith))
  busy_or_clear busy d (suc n) =
      elim (busy_or_clear busy d n) [
        | inl f ↦ inl f
        | inr none ↦ elim (follows_or_clear busy d n) [
          | inl f ↦ inl (n, f.0, f.1)
          | inr clear ↦ inr (λ e l m. elim (cases_eq e n) [ inl q ↦ subst (λ x. MayFollow plan.links d x → busy x ≡ false) (sym q) clear m | inr q ↦ none e (omega arith) m ])
        ]
      ]

  -- among busy directed links there is one, of least rank, that leads to none
  pub clear_link : (busy : ℕ → Bool) (bound d : ℕ) → rank_of plan d < bound → d < 2 * length plan.links → busy d ≡ true → (c : ℕ) × (c < 2 * length plan.links) × (busy c ≡ true) × ((e : ℕ) → MayFollow plan.links c e → busy e ≡ false)
  clear_link busy zero d r h b = absurd (omega arith)
  clear_link busy (suc bound) d r h b =
      elim (busy_or_clear busy d (2 * length plan.links)) [
        | inl f ↦ clear_link busy bound f.0 (omega (arith, rank_falls d f.0 h f.2)) f.2.there f.1
        | inr none ↦ (d, h, b, λ e m. none e m.there m)
      ]
