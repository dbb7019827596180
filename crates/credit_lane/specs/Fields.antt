-- What contracts see of the fields of a lane and of its ends, and what these fields keep.
use Rattle.std.specs.Prelude.{◌≡◌}
use Rattle.credit_lane.specs.declared.lane.Lane.TheInside as lane
use Rattle.credit_lane.specs.declared.rx.LaneRx.TheInside as rx
use Rattle.credit_lane.specs.declared.tx.LaneTx.TheInside as tx
use Rattle.credit_lane.specs.Held.{HasRoom, IsWhole, Puts, Takes}
use Rattle.credit_lane.specs.Sides.{Unsplit, PutSide, TakeSide}

abbrev pub unsplit : lane.Inside → Unsplit
unsplit l = record {
  lane = record { table = l.table.shared.table_id; plan = l.table.shared.key; room = l.room };
  whole = l.seat.me.0.puts;
}

abbrev pub KeepsWhole : lane.Inside → Type 0
KeepsWhole l =
    (l.seat.table_id ≡ l.table.shared.table_id)
    × HasRoom l.table.shared.table_id l.room
    × IsWhole l.table.shared.key l.seat.me

abbrev pub put_side : tx.Inside → PutSide
put_side e = record {
  lane = record {
    table = e.table.now.shared.table_id;
    plan = e.table.now.shared.key;
    room = e.room;
  };
  put = e.seat.me.0.put;
  taken = e.taken;
}

abbrev pub KeepsPut : tx.Inside → Type 0
KeepsPut e =
    (e.seat.table_id ≡ e.table.now.shared.table_id)
    × HasRoom e.table.now.shared.table_id e.room
    × Puts e.table.now.shared.key e.room e.put e.taken e.seat.me

abbrev pub take_side : rx.Inside → TakeSide
take_side e = record {
  lane = record {
    table = e.table.now.shared.table_id;
    plan = e.table.now.shared.key;
    room = e.room;
  };
  got = e.seat.me.0.got;
  known = e.seat.me.0.put;
}

abbrev pub KeepsTaken : rx.Inside → Type 0
KeepsTaken e =
    (e.seat.table_id ≡ e.table.now.shared.table_id)
    × HasRoom e.table.now.shared.table_id e.room
    × Takes e.table.now.shared.key e.room e.taken e.put e.seat.me
