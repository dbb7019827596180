-- The sides that were looked up are those of each stream.
use Rattle.std.proofs.Common.{◌≡◌, ◌<◌, ◌+◌, ◌++◌, ◌∷◌, [], ℕ, Bool, List, length, map, get_or, arith, ap, sym, ◌∙◌}
use Rattle.std.specs.List.{range_with_len}
use Rattle.std.proofs.lemmas.List.FromFn.{length-map-range_with_len, get_or-map-range_with_len, map-range_with_len_more}
use Rattle.fabric_lists.specs.Opened.{is_tx_stream}
use Rattle.net_machine.specs.Conditions.{ends_at_rx}
use Rattle.net_machine.specs.declared.plan.RunPlan.{RunPlan}
use Rattle.stream_pump.specs.Sided.{all_sides, sides_at}
use Rattle.stream_pump.specs.declared.sides.Sides.{Sides}

-- there are some for each stream
pub sides-within : (plan : RunPlan) (sides : List Sides) (s : ℕ) → sides ≡ all_sides plan → s < length plan.streams → s < length sides
sides-within plan sides s are lt =
    let many = ap (λ (xs : List Sides). length xs) are ∙ length-map-range_with_len (sides_at plan) 0 (length plan.streams) in
    omega (arith, many, lt)

-- what is read of stream s are its sides
pub sides-read : (plan : RunPlan) (sides : List Sides) (s : ℕ) (side : Sides) → sides ≡ all_sides plan → s < length plan.streams
    → side ≡ get_or sides s side → side ≡ sides_at plan s
sides-read plan sides s side are lt read =
    read ∙ ap (λ (xs : List Sides). get_or xs s side) are
    ∙ get_or-map-range_with_len (sides_at plan) 0 (length plan.streams) s s side lt (omega arith)

-- those of one stream more
pub sides-more : (plan : RunPlan) (sides : List Sides) (s : ℕ) (tx rx : Bool) → sides ≡ map (sides_at plan) (range_with_len 0 s)
    → tx ≡ is_tx_stream plan s → rx ≡ ends_at_rx plan s
    → sides ++ record { from_tx = tx; to_rx = rx } ∷ [] ≡ map (sides_at plan) (range_with_len 0 (s + 1))
sides-more plan sides s tx rx are from to =
    ap (λ (x : Bool). sides ++ record { from_tx = x; to_rx = rx } ∷ []) from
    ∙ ap (λ (x : Bool). sides ++ record { from_tx = is_tx_stream plan s; to_rx = x } ∷ []) to
    ∙ ap (λ (xs : List Sides). xs ++ sides_at plan s ∷ []) are ∙ sym (map-range_with_len_more (sides_at plan) 0 s s (omega arith))
