use Rattle.std.proofs.Common.{◌≡◌, map}
use Rattle.std.specs.List.{range_with_len}
use Rattle.stream_pump.specs.Sided.{sides_at}
use Rattle.stream_pump.proofs.sides.sides_of.Given as goal

-- the sides of the streams so far are there
abbrev pub invariant-loop-s : goal.invariant-loop-s
invariant-loop-s l = l.sides.items ≡ map (sides_at l.plan) (range_with_len 0 l.s)
