-- The rule of a lane's table, which holds between any two atomic steps.
-- Word 0 is the number of packets put and word 1 the number taken; packet k lies in the slot
-- k modulo the room.
use Rattle.std.specs.Prelude.{◌≡◌, ◌≢◌, ℕ, ◌+◌, ◌%◌, ◌<◌, ◌≤◌, Bool, true, false}
use Rattle.std.specs.Prelude.{List, [], ◌∷◌, length, Option, slice_get}
use mathlib.Core.List.{IsPrefix}
use mathlib.Core.Option.{some}
use mathlib.Core.Option as maybe
use lib.ListN.{get_elem?}
use Rattle.atomic_table.specs.Table.{State}
use Rattle.chdr_packets.specs.declared.packet.Packet.{Packet}
use Rattle.credit_lane.specs.declared.plan.LanePlan.{LanePlan}
use Rattle.credit_lane.specs.declared.plan.LanePlan.TheVariants.{Any}
use Rattle.credit_lane.specs.declared.rule.View.{View}
use Rattle.credit_lane.specs.Planned.{IsPlanned}

-- the lists of a lane, the seats of its ends, and whether each holds its slot
pub record Course : Type 0 where
  pub put : List Packet
  pub got : List Packet
  pub putter : ℕ
  pub taker : ℕ
  pub fills : Bool
  pub empties : Bool

abbrev pub Homes : Type 0
Homes = List (maybe.Option (Option Packet))

-- the slot of packet k is at home with that packet, or empty where none was put, unless its end
-- holds it
abbrev pub Lies : ℕ → Course → Homes → ℕ → Type 0
Lies room c homes k =
    (c.fills ≡ true → k ≢ length c.put) → (c.empties ≡ true → k ≢ length c.got)
    → get_elem? homes (k % room) ≡ some (some (slice_get c.put k))

-- the words and the slots of a lane with `room` slots
pub record IsCourse (plan : LanePlan) (room : ℕ) (words : List ℕ) (homes : Homes) (c : Course)
    : Type 0 where
  pub counts : words ≡ length c.put ∷ length c.got ∷ []
  pub order : IsPrefix c.got c.put
  pub near : length c.put ≤ length c.got + room
  pub planned : IsPlanned plan c.put
  pub filling : c.fills ≡ true → length c.put < length c.got + room
  pub emptying : c.empties ≡ true → length c.got < length c.put
  pub slots : (k : ℕ) → length c.got ≤ k → k < length c.got + room → Lies room c homes k

-- what the view of a seat has to do with the lists: an end knows its own list, and each seat a
-- beginning of both; a taker that holds its slot knows the packet in it
pub record Knows (plan : LanePlan) (c : Course) (id : ℕ) (v : View) : Type 0 where
  pub put_seen : IsPrefix v.put c.put
  pub got_seen : IsPrefix v.got c.got
  pub put_heard : IsPrefix v.heard_put c.put
  pub got_heard : IsPrefix v.heard_got c.got
  pub putting : v.puts ≡ true
      → (id ≡ c.putter) × (v.plan ≡ plan) × (v.put ≡ c.put) × (v.fills ≡ c.fills)
  pub taking : v.takes ≡ true
      → (id ≡ c.taker) × (v.plan ≡ plan) × (v.got ≡ c.got) × (v.empties ≡ c.empties)
      × (v.empties ≡ true → length v.got < length v.put)

pub record IsLane (plan : LanePlan) (s : State (Option Packet) View) : Type 0 where
  pub course : Course
  pub stands : IsCourse plan (length s.homes) s.words s.homes course
  pub seats : (id : ℕ) (v : View) → get_elem? s.views id ≡ some v → Knows plan course id v

-- a seat that is no end and knows nothing
abbrev pub spent : View
spent = record {
  puts = false;
  takes = false;
  fills = false;
  empties = false;
  plan = Any;
  put = [];
  got = [];
  heard_put = [];
  heard_got = [];
}

-- the view of a new lane's one seat
abbrev pub opened : LanePlan → View
opened rule = record spent { puts = true; takes = true; plan = rule }

-- of one view, the putter's part, the taker's part, and what is no end's
abbrev pub putter_of : View → View
putter_of v = record v { takes = false; empties = false; heard_put = []; heard_got = [] }

abbrev pub taker_of : View → View
taker_of v = record v { puts = false; fills = false; heard_put = []; heard_got = [] }

abbrev pub copy_of : View → View
copy_of v = taker_of (putter_of v)

-- the putter's view with the taker's: it knows both lists, and remembers what each side knew of
-- the other
abbrev pub joined : View → View → View
joined v w = record v {
  takes = w.takes;
  empties = w.empties;
  got = w.got;
  heard_put = w.put;
  heard_got = v.got;
}
