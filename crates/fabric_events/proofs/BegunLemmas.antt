-- The blocks of a plan, as a run of it begins.
use Rattle.std.proofs.Common.{◌≡◌, length, refl, sym, ◌∙◌, ap}
use Rattle.std.specs.Prelude.{map}
use Rattle.std.specs.List.{range_with_len}
use Rattle.std.proofs.lemmas.Simd.{map-map, pick_l_whole}
use Rattle.block_library.specs.Memory.{kept_of}
use Rattle.net_machine.specs.Plans.{block_at, no_block}
use Rattle.net_machine.specs.declared.plan.RunPlan.{RunPlan}
use Rattle.fabric_lists.specs.Opened.{unfed}
use Rattle.fabric_events.specs.Fabrics.{item_now, item_planned, kind_now, kind_planned}

-- the blocks of a plan, by their numbers
all-blocks : (plan : RunPlan) → map (block_at plan) (range_with_len 0 (length plan.blocks)) ≡ plan.blocks
all-blocks plan = pick_l_whole no_block plan.blocks (length plan.blocks) refl

-- each block is of its kind
pub unfed-kinds : (plan : RunPlan) → map kind_now (map (unfed plan) (range_with_len 0 (length plan.blocks))) ≡ map kind_planned plan.blocks
unfolding kept_of
unfed-kinds plan =
    map-map kind_now (unfed plan) (range_with_len 0 (length plan.blocks))
    ∙ sym (map-map kind_planned (block_at plan) (range_with_len 0 (length plan.blocks))) ∙ ap (map kind_planned) (all-blocks plan)

pub unfed-items : (plan : RunPlan) → map item_now (map (unfed plan) (range_with_len 0 (length plan.blocks))) ≡ map item_planned plan.blocks
unfolding kept_of
unfed-items plan =
    map-map item_now (unfed plan) (range_with_len 0 (length plan.blocks))
    ∙ sym (map-map item_planned (block_at plan) (range_with_len 0 (length plan.blocks))) ∙ ap (map item_planned) (all-blocks plan)
