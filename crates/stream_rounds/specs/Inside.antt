-- What contracts see of the fields of the fabric's ends, and what these fields keep.
use Rattle.std.specs.Prelude.{◌≡◌, length}
use Rattle.stream_rounds.specs.Sides.{Ends, IntakeSide, OutletSide}
use Rattle.stream_rounds.specs.declared.intake.Intake.TheInside as intake
use Rattle.stream_rounds.specs.declared.outlet.Outlet.TheInside as outlet
use Rattle.stream_rounds.specs.declared.pump.Pump.TheInside as pump

abbrev pub intake_side : intake.Inside → IntakeSide
intake_side x = record { stream = x.stream; rx = x.rx; moved = x.moved }

abbrev pub outlet_side : outlet.Inside → OutletSide
outlet_side x = record { stream = x.stream; tx = x.tx; moved = x.moved }

-- the packets that were put are counted
pub record KeepsOutlet (x : outlet.Inside) : Type 0 where
  pub count : x.put ≡ length x.tx.put

abbrev pub ends_of : pump.Inside → Ends
ends_of x = record {
  sources = x.edges.sources.items;
  intakes = x.fabric.intakes.items;
  outlets = x.fabric.outlets.items;
  drains = x.edges.drains.items;
}
