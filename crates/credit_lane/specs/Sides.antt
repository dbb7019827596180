-- What contracts see of a lane and of its ends.
use Rattle.std.specs.Prelude.{ℕ, Bool, List}
use Rattle.atomic_table.specs.Seated.{TableId}
use Rattle.chdr_packets.specs.declared.packet.Packet.{Packet}
use Rattle.credit_lane.specs.declared.plan.LanePlan.{LanePlan}

-- which lane it is, with its plan and its room
pub record LaneId : Type 0 where
  pub table : TableId
  pub plan : LanePlan
  pub room : ℕ

-- a lane, and whether it wasn't split yet
pub record Unsplit : Type 0 where
  pub lane : LaneId
  pub whole : Bool

-- the putting end: the packets put, and how many of them it knows to be taken
pub record PutSide : Type 0 where
  pub lane : LaneId
  pub put : List Packet
  pub taken : ℕ

-- the taking end: the packets taken, and those that it knows to be put
pub record TakeSide : Type 0 where
  pub lane : LaneId
  pub got : List Packet
  pub known : List Packet
