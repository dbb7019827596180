-- What the fields of a lane and of its ends keep.
use Rattle.std.specs.Prelude.{◌≡◌, ℕ, ◌+◌, ◌<◌, ◌≤◌, true, List, [], length}
use mathlib.Core.List.{IsPrefix}
use Rattle.atomic_table.specs.Seated.{TableId}
use Rattle.chdr_packets.specs.declared.packet.Packet.{Packet}
use Rattle.credit_lane.specs.declared.plan.LanePlan.{LanePlan}
use Rattle.credit_lane.specs.declared.rule.View.{View}
use Rattle.credit_lane.specs.Planned.{IsPlanned}
use Rattle.credit_lane.specs.Plays.{Seated}
use Rattle.credit_lane.specs.Rule.{opened, putter_of, taker_of}

-- a table of this room
pub record HasRoom (table : TableId) (room : ℕ) : Type 0 where
  pub words : table.words ≡ 2
  pub slots : table.slots ≡ room
  pub least : 0 < room
  pub most : room ≤ 1024

-- the views of both ends between their calls, when they hold no slot
abbrev pub putting : LanePlan → List Packet → List Packet → View
putting rule packets taken = record (putter_of (opened rule)) { put = packets; got = taken }

abbrev pub taking : LanePlan → List Packet → List Packet → View
taking rule packets taken = record (taker_of (opened rule)) { put = packets; got = taken }

pub record Puts (plan : LanePlan) (room put taken : ℕ) (me : Seated) : Type 0 where
  pub seat : me ≡ (putting plan me.0.put me.0.got, [])
  pub put_is : put ≡ length me.0.put
  pub taken_is : taken ≡ length me.0.got
  pub behind : IsPrefix me.0.got me.0.put
  pub near : put ≤ taken + room
  pub planned : IsPlanned plan me.0.put

pub record Takes (plan : LanePlan) (room taken put : ℕ) (me : Seated) : Type 0 where
  pub seat : me ≡ (taking plan me.0.put me.0.got, [])
  pub taken_is : taken ≡ length me.0.got
  pub put_is : put ≡ length me.0.put
  pub behind : IsPrefix me.0.got me.0.put
  pub near : put ≤ taken + room
  pub planned : IsPlanned plan me.0.put

-- a lane that wasn't split has one seat, which is both ends
abbrev pub IsWhole : LanePlan → Seated → Type 0
IsWhole plan me = me.0.puts ≡ true → me ≡ (opened plan, [])
