use Rattle.std.proofs.Common.{◌≡◌, ℕ, ◌<◌, get_or}
use Rattle.std.specs.Prelude.{Ok}
use Rattle.stream_lanes.specs.Sides.{DrainSide}
use Rattle.stream_lanes.proofs.edges.drains_ended.Given as goal

-- it went well for the first of them
abbrev pub invariant-loop-drain : goal.invariant-loop-drain
invariant-loop-drain l = (k : ℕ) (d : DrainSide) → k < l.drain-index → (get_or l.drains k d).ended ≡ Ok tt
