use Rattle.std.proofs.Common.{◌≡◌, ℕ, ◌<◌, get_or}
use Rattle.std.specs.Prelude.{Ok}
use Rattle.stream_lanes.specs.Sides.{SourceSide}
use Rattle.stream_lanes.proofs.edges.sources_ended.Given as goal

-- it went well for the first of them
abbrev pub invariant-loop-source : goal.invariant-loop-source
invariant-loop-source l = (k : ℕ) (d : SourceSide) → k < l.source-index → (get_or l.sources k d).ended ≡ Ok tt
