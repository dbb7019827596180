-- What contracts see of the workers at the edges.
use Rattle.std.specs.Prelude.{ℕ, Bool, Result}
use Rattle.block_library.specs.declared.plan.TxPlan.{TxPlan}
use Rattle.credit_lane.specs.Sides.{PutSide, TakeSide}
use Rattle.rf_base.specs.declared.memory.Memory.{Memory}

-- the worker of a Tx stream: its stream, its end of the lane, what its Tx makes, and whether it put any packet in its
-- last round, and how that round went
pub record SourceSide : Type 0 where
  pub stream : ℕ
  pub tx : PutSide
  pub makes : TxPlan
  pub moved : Bool
  pub ended : Result (Unit {0}) Memory

-- the worker of a stream to an Rx: its stream, its end of the lane, whether it took any packet in its last round, and
-- how that round went
pub record DrainSide : Type 0 where
  pub stream : ℕ
  pub rx : TakeSide
  pub moved : Bool
  pub ended : Result (Unit {0}) Memory
