-- Ends of lanes that stand for those past the end of a list.
use Rattle.std.specs.Prelude.{[], false, Ok}
use Rattle.credit_lane.specs.Sides.{LaneId, PutSide, TakeSide}
use Rattle.credit_lane.specs.declared.plan.LanePlan.TheVariants.{Any}
use Rattle.net_machine.specs.Begin.{source_of}
use Rattle.net_machine.specs.Plans.{no_block, no_epid}
use Rattle.stream_lanes.specs.Sides.{DrainSide, SourceSide}
use Rattle.stream_rounds.specs.Sides.{IntakeSide, OutletSide}

no_lane : LaneId
no_lane = record {
  table = record { words = 0; slots = 0; views_name = 0; atom = 0; block = 0; offset = 0; slot_names = [] };
  plan = Any;
  room = 0;
}

no_put : PutSide
no_put = record { lane = no_lane; put = []; taken = 0 }

no_take : TakeSide
no_take = record { lane = no_lane; got = []; known = [] }

pub no_source : SourceSide
no_source = record { stream = 0; tx = no_put; makes = source_of no_block no_epid; moved = false; ended = Ok tt }

pub no_intake : IntakeSide
no_intake = record { stream = 0; rx = no_take; moved = false }

pub no_outlet : OutletSide
no_outlet = record { stream = 0; tx = no_put; moved = false }

pub no_drain : DrainSide
no_drain = record { stream = 0; rx = no_take; moved = false; ended = Ok tt }
