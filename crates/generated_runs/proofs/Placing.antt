-- A test of blocks to be placed: those that pass aren't refused.
use Rattle.std.proofs.Common.{◌≡◌, ◌∙◌, inl, inr, ℕ, zero, suc, Bool, true, not, ◌&&◌, List, [], ◌∷◌, length, Some, refl, sym, arith, eq-eqb, ltb-true}
use Rattle.std.specs.Prelude.{◌==◌, nat_lt, slice_get, slice_index_or}
use Rattle.std.specs.List.{list_all, range_with_len}
use Rattle.std.proofs.lemmas.Bool.{not-true}
use Rattle.chdr_words.specs.declared.epid.Epid.{Epid}
use Rattle.graph_core.specs.declared.place.Side.{Side}
use Rattle.graph_core.specs.declared.place.Side.TheVariants.{Into, Out}
use Rattle.net_machine.specs.CanBegin.{stands_at}
use Rattle.net_topology.specs.declared.plan.Plan.{Plan}
use Rattle.run_plans.specs.Firsts.{EachPlace, IsFirstWithout}
use Rattle.run_plans.specs.Layouts.{OnBothSides, StandsAtNode, end_at, ends_of, in_at, no_placed, out_at}
use Rattle.run_plans.specs.Refusals.{CanPlace, IsBlockRefusal, IsFirstOf, IsUnused}
use Rattle.run_plans.specs.declared.fault.BlockRefusal.{BlockRefusal}
use Rattle.run_plans.specs.declared.fault.BlockRefusal.TheVariants.{TooManyBlocks, NoEndpoint, EndpointTaken}
use Rattle.run_plans.specs.declared.layout.Layout.{Layout}
use Rattle.run_plans.specs.declared.layout.PlacedBlock.{PlacedBlock}
use Rattle.generated_runs.proofs.Tests.{at-passes, below-length, below-passes, left, never, none-some, right}
use Rattle.generated_runs.proofs.Trees.{differ, differ-never}

-- ---- what is refused has no cause to be placed

each-first : {A : Type 0} (P : ℕ → A → Type 0) (xs : List A) (x : A) → EachPlace P xs → IsFirstWithout P xs x → ⊥
each-first P xs x each first = first.lacks (each first.place x first.found)

sides-first : (P Q : ℕ → Epid → Type 0) (block : PlacedBlock) (epid : Epid) → OnBothSides P Q block → IsFirstOf P Q block epid → ⊥
sides-first P Q block epid both (inl first) = each-first P block.ins epid both.ins first
sides-first P Q block epid both (inr rest) = each-first Q block.outs epid both.outs rest.1

pub unrefused-block : (tree : Plan) (layout : Layout) (block : PlacedBlock) (why : BlockRefusal) → CanPlace tree layout block
    → IsBlockRefusal tree layout block (Some why) → ⊥
unrefused-block tree layout block TooManyBlocks can h = let room = can.room in omega (arith, h, room)
unrefused-block tree layout block (NoEndpoint epid) can h =
    sides-first (StandsAtNode tree block.kind) (StandsAtNode tree block.kind) block epid can.stands h.first
unrefused-block tree layout block (EndpointTaken epid) can h =
    sides-first (IsUnused (in_at layout) block.ins) (IsUnused (out_at layout) block.outs) block epid can.free h.first

-- ---- the test

-- no two of the EPIDs are the same
abbrev pub none_twice : List Epid → Bool
none_twice epids = list_all
    (λ (i : ℕ). list_all (λ (j : ℕ). differ (slice_get epids j) (slice_get epids i)) (range_with_len 0 i)) (range_with_len 0 (length epids))

abbrev pub isnt : Epid → Epid → Bool
isnt epid other = not (other.0 == epid.0)

-- no block has the EPID on the side
abbrev pub is_absent : Side → List PlacedBlock → Epid → Bool
is_absent side blocks epid = list_all (λ (block : PlacedBlock). list_all (isnt epid) (ends_of side block)) blocks

abbrev pub side_free : Side → Layout → List Epid → Bool
side_free side layout epids = list_all (is_absent side layout.blocks) epids && none_twice epids

abbrev pub can_place : Plan → Layout → PlacedBlock → Bool
can_place tree layout block =
    nat_lt (length layout.blocks) 32
    && ((list_all (stands_at tree block.kind) block.ins && list_all (stands_at tree block.kind) block.outs)
    && (side_free Into layout block.ins && side_free Out layout block.outs))

isnt-never : (epid : Epid) → isnt epid epid ≡ true → ⊥
isnt-never epid h = never (sym (not-true (epid.0 == epid.0) h) ∙ eq-eqb epid.0 epid.0 refl)

absent : (side : Side) (blocks : List PlacedBlock) (epid : Epid) → is_absent side blocks epid ≡ true
    → (b i : ℕ) → slice_get (ends_of side (slice_index_or blocks b no_placed)) i ≡ Some epid → ⊥
absent Into [] epid h b i is = none-some is
absent Out [] epid h b i is = none-some is
absent side (block ∷ blocks) epid h zero i is =
    isnt-never epid (at-passes (isnt epid) (ends_of side block) (left (list_all (isnt epid) (ends_of side block)) _ h) i epid is)
absent side (block ∷ blocks) epid h (suc b) i is =
    absent side blocks epid (right (list_all (isnt epid) (ends_of side block)) _ h) b i is

unused : (side : Side) (layout : Layout) (epids : List Epid) → side_free side layout epids ≡ true
    → EachPlace (IsUnused (λ b i. end_at side layout b i) epids) epids
unused side layout epids h place epid is = record {
  blocks = absent side layout.blocks epid (at-passes (is_absent side layout.blocks) epids (left (list_all (is_absent side layout.blocks) epids) _ h) place epid is);
  earlier = λ i lt was. differ-never (slice_get epids i) (slice_get epids place) epid
      (below-passes (λ (j : ℕ). differ (slice_get epids j) (slice_get epids place)) place
      (below-passes (λ (i : ℕ). list_all (λ (j : ℕ). differ (slice_get epids j) (slice_get epids i)) (range_with_len 0 i)) (length epids)
      (right (list_all (is_absent side layout.blocks) epids) _ h) place (below-length epids place epid is)) i lt) was is;
}

stands : (tree : Plan) (block : PlacedBlock) (epids : List Epid) → list_all (stands_at tree block.kind) epids ≡ true
    → EachPlace (StandsAtNode tree block.kind) epids
stands tree block epids h place epid is = at-passes (stands_at tree block.kind) epids h place epid is

module _ (tree : Plan) (layout : Layout) (block : PlacedBlock) where
  pub can_place-CanPlace : can_place tree layout block ≡ true → CanPlace tree layout block
  can_place-CanPlace h =
      let rest = right (nat_lt (length layout.blocks) 32) _ h in
      let standing = left (list_all (stands_at tree block.kind) block.ins && list_all (stands_at tree block.kind) block.outs) _ rest in
      let freeing = right (list_all (stands_at tree block.kind) block.ins && list_all (stands_at tree block.kind) block.outs) _ rest in
      record {
        room = ltb-true (length layout.blocks) 32 (left (nat_lt (length layout.blocks) 32) _ h);
        stands = record {
          ins = stands tree block block.ins (left (list_all (stands_at tree block.kind) block.ins) _ standing);
          outs = stands tree block block.outs (right (list_all (stands_at tree block.kind) block.ins) _ standing);
        };
        free = record {
          ins = unused Into layout block.ins (left (side_free Into layout block.ins) _ freeing);
          outs = unused Out layout block.outs (right (side_free Into layout block.ins) _ freeing);
        };
      }
