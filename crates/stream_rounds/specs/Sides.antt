-- What contracts see of the fabric's ends of the lanes.
use Rattle.std.specs.Prelude.{ℕ, Bool, List}
use Rattle.credit_lane.specs.Sides.{PutSide, TakeSide}
use Rattle.stream_lanes.specs.Sides.{DrainSide, SourceSide}

-- the fabric's end of a source lane: its stream, and whether any packet was taken in the last round
pub record IntakeSide : Type 0 where
  pub stream : ℕ
  pub rx : TakeSide
  pub moved : Bool

-- the fabric's end of a drain lane: its stream, and whether any packet was put in the last round
pub record OutletSide : Type 0 where
  pub stream : ℕ
  pub tx : PutSide
  pub moved : Bool

-- the ends of all lanes of a run: those of the sources, of the fabric and of the drains
pub record Ends : Type 0 where
  pub sources : List SourceSide
  pub intakes : List IntakeSide
  pub outlets : List OutletSide
  pub drains : List DrainSide
