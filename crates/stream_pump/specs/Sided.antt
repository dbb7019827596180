-- The sides of a plan's streams, once they are looked up.
use Rattle.std.specs.Prelude.{◌≡◌, ℕ, List, length, map}
use Rattle.std.specs.List.{range_with_len}
use Rattle.net_machine.specs.declared.plan.RunPlan.{RunPlan}
use Rattle.net_machine.specs.Conditions.{ends_at_rx}
use Rattle.fabric_lists.specs.Opened.{is_tx_stream}
use Rattle.stream_pump.specs.declared.sides.Sides.{Sides}
use Rattle.stream_pump.specs.declared.sides.SidedPlan.TheInside as sided

-- what stands at the two sides of stream s
abbrev pub sides_at : RunPlan → ℕ → Sides
sides_at plan s = record { from_tx = is_tx_stream plan s; to_rx = ends_at_rx plan s }

-- so for each stream
abbrev pub all_sides : RunPlan → List Sides
all_sides plan = map (sides_at plan) (range_with_len 0 (length plan.streams))

abbrev pub plan_of : sided.Inside → RunPlan
plan_of x = x.plan.now

-- the sides are those of the plan's streams
pub record KeepsSides (x : sided.Inside) : Type 0 where
  pub sides : x.sides.items ≡ all_sides x.plan.now
