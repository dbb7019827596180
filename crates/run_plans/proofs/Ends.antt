-- The ends of blocks, as blocks are added and as they are looked for.
use Rattle.std.proofs.Common.{◌≡◌, ◌∙◌, ℕ, ◌<◌, ◌≤◌, ◌⊎◌, inl, inr, refl, sym, ap, subst, List, [], ◌∷◌, ◌++◌, Bool, true, false, not, take, eqb, eqb-true, eq-eqb, length, get_or, arith, Option, Some, None}
use Rattle.std.specs.Prelude.{MatchOption, slice_get, position}
use Rattle.std.proofs.lemmas.Bool.{cases_lt}
use Rattle.std.proofs.lemmas.List.{get_or-take, get_or_past, length-take}
use Rattle.std.proofs.lemmas.List.Folds.{Any-from_list_any}
use Rattle.std.proofs.lemmas.List.Quantifiers.{position-Some}
use Rattle.std.proofs.lemmas.Map.Keys.{any_passes_from_place}
use Rattle.std.proofs.lemmas.Option.{get_or_from_slice_get, slice_get-get_or, slice_get_within}
use Rattle.chdr_words.specs.declared.epid.Epid.{Epid}
use Rattle.net_machine.specs.CanBegin.{AreApart}
use Rattle.net_machine.specs.Plans.{is_among}
use Rattle.run_plans.specs.Firsts.{EachPlace, IsFirstWithout}
use Rattle.run_plans.specs.Layouts.{OnBothSides}
use Rattle.run_plans.specs.Refusals.{IsFirstOf, IsUnused}
use Rattle.run_plans.specs.declared.layout.PlacedBlock.{PlacedBlock}
use Rattle.run_plans.proofs.Lists.{Pushed, pushed, position-there}
use Rattle.run_plans.proofs.Lists.Pushed.{old, last, past}

-- an EPID is its number
pub same_epid : (a b : Epid) → a.0 ≡ b.0 → a ≡ b
same_epid a b e = λ i. record { 0 = e i }

-- an EPID that is one of these has a place
pub among-place : (epid : Epid) (epids : List Epid) → is_among epid epids ≡ true → (k : ℕ) × (slice_get epids k ≡ Some epid)
among-place epid epids e =
    let any = Any-from_list_any (λ (one : Epid). eqb one.0 epid.0) epids e in
    let is : any.1 ≡ epid = same_epid any.1 epid (eqb-true any.1.0 epid.0 any.4) in
    (any.0, slice_get-get_or epids any.0 any.1 any.2 ∙ ap Some (any.3 ∙ is))

pub place-among : (epid : Epid) (epids : List Epid) (k : ℕ) → slice_get epids k ≡ Some epid → is_among epid epids ≡ true
place-among epid epids k e = any_passes_from_place (λ (one : Epid). eqb one.0 epid.0) epids k epid e (eq-eqb epid.0 epid.0 refl)

-- whether an EPID stands earlier in a list is whether it is among those before
pub earlier-free : (epid : Epid) (epids : List Epid) (place : ℕ) → not (is_among epid (take place epids)) ≡ true
    → (i : ℕ) → i < place → slice_get epids i ≡ Some epid → ⊥
earlier-free epid epids place none i lt at =
    let within = slice_get_within epids i epid at in
    let short = length-take place epids in
    let found : slice_get (take place epids) i ≡ Some epid =
    slice_get-get_or (take place epids) i epid (omega arith) ∙ ap Some (get_or-take place epids i epid lt ∙ get_or_from_slice_get epids i epid epid at) in
    let z : false ≡ true = sym (ap not (place-among epid (take place epids) i found)) ∙ none in
    absurd cc

pub free-earlier : (epid : Epid) (epids : List Epid) (place : ℕ) → ((i : ℕ) → i < place → slice_get epids i ≡ Some epid → ⊥)
    → not (is_among epid (take place epids)) ≡ true
free-earlier epid epids place free = by (is_among epid (take place epids)) refl
  where
    by : (b : Bool) → is_among epid (take place epids) ≡ b → not b ≡ true
    by false is = refl
    by true is =
        let found = among-place epid (take place epids) is in
        let within = slice_get_within (take place epids) found.0 epid found.1 in
        let short = length-take place epids in
        let at : slice_get epids found.0 ≡ Some epid =
        slice_get-get_or epids found.0 epid (omega arith)
        ∙ ap Some (sym (get_or-take place epids found.0 epid (omega arith)) ∙ get_or_from_slice_get (take place epids) found.0 epid epid found.1) in
        absurd (free found.0 (omega arith) at)

-- what is found on the second side, where the first one has none
pub either_side : (P Q : ℕ → Epid → Type 0) (block : PlacedBlock) (found : Option Epid) → EachPlace P block.ins
    → MatchOption found (EachPlace Q block.outs) (IsFirstWithout Q block.outs)
    → MatchOption found (OnBothSides P Q block) (IsFirstOf P Q block)
either_side P Q block None ins outs = record { ins = ins; outs = outs }
either_side P Q block (Some epid) ins outs = inr (ins, outs)

pub order : (i j : ℕ) → (i ≡ j) ⊎ ((i < j) ⊎ (j < i))
order i j = elim (cases_lt i j) [ inl lt ↦ inr (inl lt) | inr le ↦ elim (cases_lt j i) [ inl gt ↦ inr (inr gt) | inr ge ↦ inl (omega arith) ] ]

-- one side of blocks, where a block that isn't there has no end
module _ {B : Type 0} (ends : B → List Epid) (none : B) (nothing : ends none ≡ []) where
  nowhere : (i : ℕ) (e : Epid) {P : Type 0} → slice_get (ends none) i ≡ Some e → P
  nowhere i e at = let z : ◌≡◌ {A = Option Epid} None (Some e) = subst (λ (es : List Epid). slice_get es i ≡ Some e) nothing at in absurd cc

  -- a block with an end is there
  pub is_there : (blocks : List B) (b i : ℕ) (e : Epid) → slice_get (ends (get_or blocks b none)) i ≡ Some e → b < length blocks
  is_there blocks b i e at = by (cases_lt b (length blocks))
    where
      by : (b < length blocks) ⊎ (length blocks ≤ b) → b < length blocks
      by (inl lt) = lt
      by (inr le) = nowhere i e (subst (λ (x : B). slice_get (ends x) i ≡ Some e) (get_or_past blocks b none le) at)

  -- a new block leaves the ends of the others
  pub end_kept : (blocks : List B) (block : B) (b i : ℕ) (e : Epid) → slice_get (ends (get_or blocks b none)) i ≡ Some e
      → slice_get (ends (get_or (blocks ++ block ∷ []) b none)) i ≡ Some e
  end_kept blocks block b i e at = by (pushed blocks block none b) (is_there blocks b i e at)
    where
      by : Pushed blocks block none b → b < length blocks → slice_get (ends (get_or (blocks ++ block ∷ []) b none)) i ≡ Some e
      by (old lt is) there = subst (λ (x : B). slice_get (ends x) i ≡ Some e) (sym is) at
      by (last here is) there = absurd (omega arith)
      by (past gt is) there = absurd (omega arith)

  -- blocks stay apart if the new one's EPIDs are unused
  pub apart_kept : (blocks : List B) (block : B) → AreApart (λ b i. slice_get (ends (get_or blocks b none)) i)
      → EachPlace (IsUnused (λ b i. slice_get (ends (get_or blocks b none)) i) (ends block)) (ends block)
      → AreApart (λ b i. slice_get (ends (get_or (blocks ++ block ∷ []) b none)) i)
  apart_kept blocks block apart free a b i j e p q = by (pushed blocks block none a) (pushed blocks block none b)
    where
      at : (c k : ℕ) (x : B) → get_or (blocks ++ block ∷ []) c none ≡ x → slice_get (ends (get_or (blocks ++ block ∷ []) c none)) k ≡ Some e → slice_get (ends x) k ≡ Some e
      at c k x is has = subst (λ (x : B). slice_get (ends x) k ≡ Some e) is has

      same : (i ≡ j) ⊎ ((i < j) ⊎ (j < i)) → slice_get (ends block) i ≡ Some e → slice_get (ends block) j ≡ Some e → i ≡ j
      same (inl is) p q = is
      same (inr (inl lt)) p q = absurd ((free j e q).earlier i lt p)
      same (inr (inr lt)) p q = absurd ((free i e p).earlier j lt q)

      by : Pushed blocks block none a → Pushed blocks block none b → (a ≡ b) × (i ≡ j)
      by (old lt is) (old lt' is') = apart a b i j e (at a i _ is p) (at b j _ is' q)
      by (old lt is) (last here is') = absurd ((free j e (at b j _ is' q)).blocks a i (at a i _ is p))
      by (last here is) (old lt is') = absurd ((free i e (at a i _ is p)).blocks b j (at b j _ is' q))
      by (last here is) (last here' is') = (here ∙ sym here', same (order i j) (at a i _ is p) (at b j _ is' q))
      by (past gt is) other = nowhere i e (at a i _ is p)
      by (old lt is) (past gt is') = nowhere j e (at b j _ is' q)
      by (last here is) (past gt is') = nowhere j e (at b j _ is' q)

  -- the first block with an end at an EPID has one
  pub found-end : (blocks : List B) (e : Epid) (b : ℕ) → position (λ (x : B). is_among e (ends x)) blocks ≡ Some b
      → (i : ℕ) × (slice_get (ends (get_or blocks b none)) i ≡ Some e)
  found-end blocks e b is = among-place e (ends (get_or blocks b none)) (position-Some (λ (x : B). is_among e (ends x)) blocks b none is).1

  -- of blocks that are apart, that with an end at an EPID is the first one
  pub end-found : (blocks : List B) → AreApart (λ b i. slice_get (ends (get_or blocks b none)) i) → (b i : ℕ) (e : Epid)
      → slice_get (ends (get_or blocks b none)) i ≡ Some e → position (λ (x : B). is_among e (ends x)) blocks ≡ Some b
  end-found blocks apart b i e at =
      let there = position-there (λ (x : B). is_among e (ends x)) blocks b none (is_there blocks b i e at) (place-among e (ends (get_or blocks b none)) i at) in
      let other = found-end blocks e there.0 there.1 in
      there.1 ∙ ap Some (apart there.0 b other.0 i e other.1 at).0
