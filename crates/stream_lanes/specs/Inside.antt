-- What contracts see of the workers' fields, and what these fields keep.
use Rattle.std.specs.Prelude.{◌≡◌, ◌≤◌, length}
use Rattle.block_library.specs.Producer.{FitsPlan}
use Rattle.credit_lane.specs.declared.plan.LanePlan.TheVariants.{Producer}
use Rattle.stream_lanes.specs.Sides.{DrainSide, SourceSide}
use Rattle.stream_lanes.specs.declared.drain.Drain.TheInside as drain
use Rattle.stream_lanes.specs.declared.source.Source.TheInside as source

abbrev pub source_side : source.Inside → SourceSide
source_side w = record { stream = w.stream; tx = w.tx; makes = w.makes; moved = w.moved; ended = w.ended }

-- the next packet to put is the first that wasn't put, and the lane takes what the Tx makes
pub record KeepsSource (w : source.Inside) : Type 0 where
  pub fits : FitsPlan w.makes
  pub lane : w.tx.lane.plan ≡ Producer w.makes
  pub next_is : w.next ≡ length w.tx.put
  pub within : w.next ≤ w.makes.packets

abbrev pub drain_side : drain.Inside → DrainSide
drain_side w = record { stream = w.stream; rx = w.rx; moved = w.moved; ended = w.ended }

-- the list has what was taken
pub record KeepsDrain (w : drain.Inside) : Type 0 where
  pub list : w.list.items ≡ w.rx.got
