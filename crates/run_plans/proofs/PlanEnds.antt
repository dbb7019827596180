-- The blocks of the plan that a layout makes are those of the layout, with their kinds and ends.
use Rattle.std.proofs.Common.{◌≡◌, ◌∙◌, ℕ, zero, suc, ◌+◌, ◌<◌, ◌≤◌, inl, inr, refl, sym, ap, List, [], ◌∷◌, ◌++◌, length, get_or, map, arith}
use Rattle.std.specs.Prelude.{slice_get}
use Rattle.std.specs.List.{range_with_len}
use Rattle.std.proofs.lemmas.Bool.{cases_lt}
use Rattle.std.proofs.lemmas.List.{get_or_past, length-map}
use Rattle.std.proofs.lemmas.List.FromFn.{get_or-map-range_with_len, length-map-range_with_len, map-range_with_len_more}
use Rattle.block_library.specs.declared.kind.BlockKind.{BlockKind}
use Rattle.chdr_words.specs.declared.epid.Epid.{Epid}
use Rattle.graph_core.specs.Derivation.{Diagram}
use Rattle.graph_core.specs.Pairs.{Pair}
use Rattle.graph_core.specs.State.{IsDiagram}
use Rattle.graph_core.specs.Ports.{port_count, ports_at}
use Rattle.graph_core.specs.declared.place.Side.{Side}
use Rattle.net_machine.specs.CanBegin.{input_at, output_at}
use Rattle.net_machine.specs.Plans.{block_at, no_block}
use Rattle.net_machine.specs.declared.plan.BlockPlan.{BlockPlan}
use Rattle.net_faults.specs.declared.fault.Fault.{Fault}
use Rattle.run_plans.specs.Layouts.{IsLayout, in_at, no_placed, out_at, placed_at}
use Rattle.run_plans.specs.Planned.{plan_of, planned_at, planned_block}
use Rattle.run_plans.specs.declared.layout.Layout.{Layout}
use Rattle.run_plans.specs.declared.layout.PlacedBlock.{PlacedBlock}

-- the kind of a block is that in the graph
pub kind_at : (blocks : List PlacedBlock) (b : ℕ) → b < length blocks → (side : Side)
    → ports_at (map (λ (x : PlacedBlock). x.kind) blocks) b side ≡ port_count side (get_or blocks b no_placed).kind
kind_at [] b lt side = absurd (omega arith)
kind_at (x ∷ xs) zero lt side = refl
kind_at (x ∷ xs) (suc b) lt side = kind_at xs b (omega arith) side

-- a layout has no more blocks than its graph
pub blocks-few : (diagram : Diagram) (layout : Layout) → IsDiagram diagram → IsLayout diagram layout → length layout.blocks ≤ 32
blocks-few diagram layout graph ok =
    let same : length diagram.kinds ≡ length layout.blocks =
    ap (length {A = BlockKind}) (sym ok.kinds) ∙ length-map layout.blocks (λ (x : PlacedBlock). x.kind) in
    let few = graph.few in
    omega arith

-- one more planned block
pub plans-more : (layout : Layout) (committed : List Pair) (plans new : List BlockPlan) (number : ℕ) (block : PlacedBlock) (made : BlockPlan)
    → plans ≡ map (planned_at layout committed) (range_with_len 0 number) → new ≡ plans ++ made ∷ []
    → made ≡ planned_block committed number block → block ≡ placed_at layout number
    → new ≡ map (planned_at layout committed) (range_with_len 0 (number + 1))
plans-more layout committed plans new number block made before after planned same =
    after
    ∙ ap (λ (xs : List BlockPlan). xs ++ made ∷ []) before
    ∙ ap (λ (x : BlockPlan). map (planned_at layout committed) (range_with_len 0 number) ++ x ∷ []) (planned ∙ ap (planned_block committed number) same)
    ∙ sym (map-range_with_len_more (planned_at layout committed) 0 number number (omega arith))

module _ (layout : Layout) (committed : List Pair) (faults : List Fault) where
  pub plan-blocks : length (plan_of layout committed faults).blocks ≡ length layout.blocks
  plan-blocks = length-map-range_with_len (planned_at layout committed) 0 (length layout.blocks)

  pub plan-block : (b : ℕ) → b < length layout.blocks → block_at (plan_of layout committed faults) b ≡ planned_at layout committed b
  plan-block b lt = get_or-map-range_with_len (planned_at layout committed) 0 (length layout.blocks) b b no_block lt (omega arith)

  ins_are : (b : ℕ) → (block_at (plan_of layout committed faults) b).ins ≡ (placed_at layout b).ins
  ins_are b = elim (cases_lt b (length layout.blocks)) [
    | inl lt ↦ ap (λ (x : BlockPlan). x.ins) (plan-block b lt)
    | inr le ↦ ap (λ (x : BlockPlan). x.ins) (get_or_past (plan_of layout committed faults).blocks b no_block (let long = plan-blocks in omega arith))
        ∙ sym (ap (λ (x : PlacedBlock). x.ins) (get_or_past layout.blocks b no_placed le))
  ]

  outs_are : (b : ℕ) → (block_at (plan_of layout committed faults) b).outs ≡ (placed_at layout b).outs
  outs_are b = elim (cases_lt b (length layout.blocks)) [
    | inl lt ↦ ap (λ (x : BlockPlan). x.outs) (plan-block b lt)
    | inr le ↦ ap (λ (x : BlockPlan). x.outs) (get_or_past (plan_of layout committed faults).blocks b no_block (let long = plan-blocks in omega arith))
        ∙ sym (ap (λ (x : PlacedBlock). x.outs) (get_or_past layout.blocks b no_placed le))
  ]

  pub plan-input : (b i : ℕ) → input_at (plan_of layout committed faults) b i ≡ in_at layout b i
  plan-input b i = ap (λ (es : List Epid). slice_get es i) (ins_are b)

  pub plan-output : (b j : ℕ) → output_at (plan_of layout committed faults) b j ≡ out_at layout b j
  plan-output b j = ap (λ (es : List Epid). slice_get es j) (outs_are b)
