-- The first link of a way, and how it is found by the links that lead to node 0.
use Rattle.std.proofs.Common.{◌≡◌, ◌≢◌, ℕ, ◌+◌, ◌*◌, ◌<◌, List, [], ◌∷◌, ◌++◌, length, length-append, map, reverse, get_or, Option, Some, None, slice_get, inl, inr, sym, ◌∙◌, refl, ap, subst, arith}
use Rattle.std.specs.Option.{IfSome, MatchOption}
use Rattle.std.proofs.Math.ListN.{get_or-append}
use Rattle.std.proofs.Math.Seq.{get_or-append_seam}
use Rattle.std.proofs.lemmas.Bool.{cases_eq, cases_lt}
use Rattle.std.proofs.lemmas.Option.{slice_get-get_or}
use Rattle.std.proofs.lemmas.List.{length-map, length-reverse, reverse-append}
use Rattle.net_topology.specs.declared.plan.Plan.{Plan}
use Rattle.net_topology.specs.Links.{back_of, start_of, end_of, IsWay}
use Rattle.net_topology.specs.Mapped.{HasUps}
use Rattle.net_topology.specs.Parts.{way_of}
use Rattle.net_topology.specs.Next.{next_of}
use Rattle.net_topology.specs.Tree.{IsTree}
use Rattle.net_topology.proofs.RankLemmas.{IsWayOver-one, back_below, start_of-back, end_of-back, way_before}
use Rattle.net_topology.proofs.CheckLemmas.{way_of_is_way}
use Rattle.net_topology.proofs.UpLemmas.{first_of_front, way_over-self}
use Rattle.net_topology.proofs.LawLemmas.{forest, only_way, back_way, start_there, end_there}

-- one more link behind a walk that isn't empty changes nothing of its beginning
pub first_of_longer : (d e : ℕ) (ds : List ℕ) → slice_get (reverse (map back_of (d ∷ e ∷ ds))) 0 ≡ slice_get (reverse (map back_of (e ∷ ds))) 0
first_of_longer d e ds =
    let some : 0 < length (reverse (map back_of (e ∷ ds))) = omega (arith, length-reverse (map back_of (e ∷ ds)), length-map (e ∷ ds) back_of) in
    ap (λ xs. slice_get xs 0) (reverse-append (back_of d ∷ []) (map back_of (e ∷ ds))) ∙ first_of_front (reverse (map back_of (e ∷ ds))) (back_of d ∷ []) some

-- a way is empty from a node to itself, and else begins with its first link
abbrev pub Begins : Plan → ℕ → ℕ → List ℕ → Option ℕ → Type 0
Begins plan a b way first = MatchOption first
    ((a ≡ b) × (way ≡ []))
    (λ d. (d < 2 * length plan.links) × (start_of plan.links d ≡ a) × (way ≡ d ∷ way_of plan.links (end_of plan.links d) b))

module _ (plan : Plan) (tree : IsTree plan) where
  pub begins : (a b : ℕ) (ds : List ℕ) → IsWay plan.links a b ds → Begins plan a b ds (slice_get ds 0)
  begins a b [] w = (w.0, refl)
  begins a b (d ∷ ds) w =
      (w.0.0, w.0.1, ap (λ xs. d ∷ xs) (only_way plan tree (end_of plan.links d) b ds (w.0.2, w.1.1)))

  pub next_begins : (a b : ℕ) → a < length plan.nodes → b < length plan.nodes → Begins plan a b (way_of plan.links a b) (next_of plan.links a b)
  next_begins a b p q = begins a b (way_of plan.links a b) (way_of_is_way plan a b tree p q)

  -- back over a link to its first node
  pub next_back : (d : ℕ) → d < 2 * length plan.links → next_of plan.links (end_of plan.links d) (start_of plan.links d) ≡ Some (back_of d)
  next_back d h =
      let one : IsWay plan.links (end_of plan.links d) (start_of plan.links d) (back_of d ∷ []) =
      subst (λ x. IsWay plan.links x (start_of plan.links d) (back_of d ∷ [])) (start_of-back plan.links d) (subst (λ y. IsWay plan.links (start_of plan.links (back_of d)) y (back_of d ∷ [])) (end_of-back plan.links d) (IsWayOver-one plan.links (length plan.links) (back_of d) (forest plan tree) (back_below d (length plan.links) h))) in
      ap (λ xs. slice_get xs 0) (sym (only_way plan tree (end_of plan.links d) (start_of plan.links d) (back_of d ∷ []) one))

  -- two ways to a node that begin alike when they are reversed
  pub same_first : (a d : ℕ) (ps qs : List ℕ) → d < 2 * length plan.links → a < length plan.nodes → IsWay plan.links (start_of plan.links d) a ps → IsWay plan.links (end_of plan.links d) a qs → slice_get (reverse (map back_of ps)) 0 ≡ slice_get (reverse (map back_of qs)) 0 → next_of plan.links a (start_of plan.links d) ≡ next_of plan.links a (end_of plan.links d)
  same_first a d ps qs h p v w e =
      ap (λ xs. slice_get xs 0) (back_way plan tree (start_of plan.links d) a (start_there plan tree d h) p)
      ∙ ap (λ xs. slice_get (reverse (map back_of xs)) 0) (sym (only_way plan tree (start_of plan.links d) a ps v))
      ∙ e
      ∙ ap (λ xs. slice_get (reverse (map back_of xs)) 0) (only_way plan tree (end_of plan.links d) a qs w)
      ∙ ap (λ xs. slice_get xs 0) (sym (back_way plan tree (end_of plan.links d) a (end_there plan tree d h) p))

  -- the way from a node begins alike to both ends of a link, unless the node is one of them
  pub beside_back : (a d : ℕ) (ws : List ℕ) → d < 2 * length plan.links → a < length plan.nodes → a ≢ start_of plan.links d → IsWay plan.links (end_of plan.links d) a (back_of d ∷ ws) → next_of plan.links a (start_of plan.links d) ≡ next_of plan.links a (end_of plan.links d)
  beside_back a d [] h p ne w = absurd (ne (sym w.0.2 ∙ end_of-back plan.links d))
  beside_back a d (e ∷ ws) h p ne w =
      let rest : IsWay plan.links (start_of plan.links d) a (e ∷ ws) = subst (λ x. IsWay plan.links x a (e ∷ ws)) (end_of-back plan.links d) (w.0.2, w.1.1) in
      same_first a d (e ∷ ws) (back_of d ∷ e ∷ ws) h p rest w (sym (first_of_longer (back_of d) e ws))

  pub beside_way : (a d : ℕ) (ws : List ℕ) → d < 2 * length plan.links → a < length plan.nodes → a ≢ start_of plan.links d → a ≢ end_of plan.links d → IsWay plan.links (end_of plan.links d) a ws → next_of plan.links a (start_of plan.links d) ≡ next_of plan.links a (end_of plan.links d)
  beside_way a d [] h p ne nf w = absurd (nf (sym w.0))
  beside_way a d (e ∷ ws) h p ne nf w =
      elim (cases_eq e (back_of d)) [
        | inl back ↦ beside_back a d ws h p ne (subst (λ x. IsWay plan.links (end_of plan.links d) a (x ∷ ws)) back w)
        | inr onward ↦ same_first a d (d ∷ e ∷ ws) (e ∷ ws) h p (way_before plan.links (length plan.links) d e a ws (forest plan tree) h w.0.1 onward w) w (first_of_longer d e ws)
      ]

  pub next_beside : (a d : ℕ) → d < 2 * length plan.links → a < length plan.nodes → a ≢ start_of plan.links d → a ≢ end_of plan.links d → next_of plan.links a (start_of plan.links d) ≡ next_of plan.links a (end_of plan.links d)
  next_beside a d h p ne nf =
      beside_way a d (way_of plan.links (end_of plan.links d) a) h p ne nf (way_of_is_way plan (end_of plan.links d) a tree (end_there plan tree d h) p)

  -- the first link, if there is one, is where the node starts, and the way goes on from its end
  pub next_some : (a b d : ℕ) → a < length plan.nodes → b < length plan.nodes → Some d ≡ next_of plan.links a b → (d < 2 * length plan.links) × (start_of plan.links d ≡ a) × (way_of plan.links a b ≡ d ∷ way_of plan.links (end_of plan.links d) b)
  next_some a b d p q e =
      subst (Begins plan a b (way_of plan.links a b)) (sym e) (next_begins a b p q)

  pub next_none : (a b : ℕ) → a < length plan.nodes → b < length plan.nodes → next_of plan.links a b ≡ None → a ≡ b
  next_none a b p q e = (subst (Begins plan a b (way_of plan.links a b)) e (next_begins a b p q)).0

  -- so a first link is there, and the way begins with it
  pub next_there : (a b : ℕ) (first : Option ℕ) → a < length plan.nodes → b < length plan.nodes → first ≡ next_of plan.links a b → IfSome first (λ d. d < 2 * length plan.links)
  next_there a b None p q e = tt
  next_there a b (Some d) p q e = (next_some a b d p q e).0

  pub next_way : (a b : ℕ) (first : Option ℕ) → a < length plan.nodes → b < length plan.nodes → first ≡ next_of plan.links a b → MatchOption first (way_of plan.links a b ≡ []) (λ d. way_of plan.links a b ≡ d ∷ way_of plan.links (end_of plan.links d) b)
  next_way a b None p q e = (subst (Begins plan a b (way_of plan.links a b)) (sym e) (next_begins a b p q)).1
  next_way a b (Some d) p q e = (next_some a b d p q e).2

  -- a link towards node 0 that ends at a is the last of the way from b that comes to a
  pub next_met : (a b node up parent back : ℕ) → node < length plan.nodes → next_of plan.links a b ≡ next_of plan.links a node → Some up ≡ next_of plan.links node 0 → parent ≡ end_of plan.links up → parent ≡ a → back ≡ back_of up → Some back ≡ next_of plan.links a b
  next_met a b node up parent back p alike e ends met is =
      let u = next_some node 0 up p (omega (arith, p)) e in
      ap Some is ∙ sym (next_back up u.0) ∙ ap (λ x. next_of plan.links x (start_of plan.links up)) (sym ends ∙ met) ∙ ap (next_of plan.links a) u.1 ∙ sym alike

  -- one that ends elsewhere changes nothing, and is nearer to node 0
  pub next_alike : (a b node up parent : ℕ) → a < length plan.nodes → node < length plan.nodes → a ≢ node → next_of plan.links a b ≡ next_of plan.links a node → Some up ≡ next_of plan.links node 0 → parent ≡ end_of plan.links up → a ≢ parent → next_of plan.links a b ≡ next_of plan.links a parent
  next_alike a b node up parent pa p apart alike e ends other =
      let u = next_some node 0 up p (omega (arith, p)) e in
      alike
      ∙ ap (next_of plan.links a) (sym u.1)
      ∙ next_beside a up u.0 pa (λ s. apart (s ∙ u.1)) (λ s. other (s ∙ sym ends))
      ∙ ap (next_of plan.links a) (sym ends)

  pub next_nearer : (node up parent : ℕ) → node < length plan.nodes → Some up ≡ next_of plan.links node 0 → parent ≡ end_of plan.links up → length (way_of plan.links parent 0) < length (way_of plan.links node 0)
  next_nearer node up parent p e ends =
      let u = next_some node 0 up p (omega (arith, p)) e in
      let longer : length (way_of plan.links node 0) ≡ length (way_of plan.links parent 0) + 1 = ap length u.2 ∙ ap (λ x. length (up ∷ way_of plan.links x 0)) (sym ends) ∙ omega arith in
      omega (arith, longer)

-- from a node to itself there is no first link
pub next_same : (plan : Plan) (a b : ℕ) → a ≡ b → way_of plan.links a b ≡ []
next_same plan a b e = ap (way_of plan.links a) (sym e) ∙ way_over-self plan.links (length plan.links) a

-- at node 0 the way from a begins as a's way to node 0
pub next_last : (plan : Plan) (a b node : ℕ) (first : Option ℕ) → node ≡ 0 → next_of plan.links a b ≡ next_of plan.links a node → first ≡ next_of plan.links a 0 → first ≡ next_of plan.links a b
next_last plan a b node first root alike is = is ∙ ap (next_of plan.links a) (sym root) ∙ sym alike

-- one more node's link
pub HasUps-push : (plan : Plan) (x : ℕ) (ups : List (Option ℕ)) (up : Option ℕ) → HasUps plan x ups → up ≡ next_of plan.links x 0 → HasUps plan (x + 1) (ups ++ up ∷ [])
HasUps-push plan x ups up h e =
    let many : length (ups ++ up ∷ []) ≡ x + 1 = omega (arith, length-append ups (up ∷ []), h.many) in
    record {
      many = many;
      each = λ y l.
          slice_get-get_or (ups ++ up ∷ []) y None (omega (arith, l, many))
          ∙ elim (cases_lt y x) [
            | inl less ↦ ap Some (get_or-append ups (up ∷ []) None y (omega (arith, less, h.many))) ∙ sym (slice_get-get_or ups y None (omega (arith, less, h.many))) ∙ h.each y less
            | inr more ↦
                let at : y ≡ length ups = omega (arith, more, l, h.many) in
                let same : x ≡ y = omega (arith, more, l) in
                ap (λ i. Some (get_or (ups ++ up ∷ []) i None)) at ∙ ap Some (get_or-append_seam ups up [] None) ∙ ap Some e ∙ ap (λ i. Some (next_of plan.links i 0)) same
          ];
    }
