-- The streams of a plan, by their numbers, as a run of it begins.
use Rattle.std.proofs.Common.{◌≡◌, ℕ, length, refl, sym, ◌∙◌, ap}
use Rattle.std.specs.Prelude.{map}
use Rattle.std.specs.List.{range_with_len}
use Rattle.std.proofs.lemmas.Simd.{map-map, pick_l_whole}
use Rattle.net_machine.specs.Plans.{no_stream, plan_at}
use Rattle.net_machine.specs.declared.plan.RunPlan.{RunPlan}
use Rattle.fabric_lists.specs.Opened.{opened_now}

pub all-plans : (plan : RunPlan) → map (plan_at plan) (range_with_len 0 (length plan.streams)) ≡ plan.streams
all-plans plan = pick_l_whole no_stream plan.streams (length plan.streams) refl

pub all-opened : (plan : RunPlan) → map (λ (s : ℕ). opened_now plan (plan_at plan s)) (range_with_len 0 (length plan.streams))
    ≡ map (opened_now plan) plan.streams
all-opened plan =
    sym (map-map (opened_now plan) (plan_at plan) (range_with_len 0 (length plan.streams))) ∙ ap (map (opened_now plan)) (all-plans plan)
