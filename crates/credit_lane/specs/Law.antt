-- What the rule says of a lane between any two steps, whichever threads hold its ends.
use Rattle.std.specs.Prelude.{◌≡◌, ℕ, ◌+◌, ◌%◌, ◌<◌, ◌≤◌, Bool, true, false}
use Rattle.std.specs.Prelude.{List, [], ◌∷◌, length, Option, None, slice_get}
use mathlib.Core.List.{IsPrefix}
use mathlib.Core.Option.{some}
use lib.ListN.{get_elem?}
use Rattle.atomic_table.specs.Table.{State}
use Rattle.chdr_packets.specs.declared.packet.Packet.{Packet}
use Rattle.credit_lane.specs.declared.plan.LanePlan.{LanePlan}
use Rattle.credit_lane.specs.declared.rule.View.{View}
use Rattle.credit_lane.specs.Planned.{IsPlanned}
use Rattle.credit_lane.specs.Plays.{next_of}
use Rattle.credit_lane.specs.Rule.{Homes}

-- what the rule says of a seat: it knows beginnings of both lists
pub record IsSeat (put got : List Packet) (v : View) : Type 0 where
  pub put_seen : IsPrefix v.put put
  pub got_seen : IsPrefix v.got got

-- what it says of the putting end: it knows put, and the slot of the next packet to put is home
-- and empty unless its view says that it holds that slot
pub record IsPutter (plan : LanePlan) (homes : Homes) (put got : List Packet) (v : View) : Type 0 where
  pub plans : v.plan ≡ plan
  pub own : v.put ≡ put
  pub home : v.fills ≡ false → length put < length got + length homes
      → get_elem? homes (length put % length homes) ≡ some (some None)
  pub held : v.fills ≡ true → length put < length got + length homes

-- what it says of the taking end: it knows got, and the slot of the first packet that isn't taken
-- is home with that packet unless its view says that it holds that slot, and which packet is in it
pub record IsTaker (plan : LanePlan) (homes : Homes) (put got : List Packet) (v : View)
    : Type 0 where
  pub plans : v.plan ≡ plan
  pub own : v.got ≡ got
  pub home : v.empties ≡ false → length got < length put
      → get_elem? homes (length got % length homes) ≡ some (some (slice_get put (length got)))
  pub held : v.empties ≡ true
      → (length got < length put) × (next_of v ≡ slice_get put (length got))

-- one seat at most plays this part
abbrev pub IsOne : (View → Bool) → List View → Type 0
IsOne plays views = (i j : ℕ) (v w : View) → get_elem? views i ≡ some v → get_elem? views j ≡ some w
    → plays v ≡ true → plays w ≡ true → i ≡ j

pub record IsLawful (plan : LanePlan) (s : State (Option Packet) View) : Type 0 where
  pub put : List Packet
  pub got : List Packet
  -- each word is the length of its side's list
  pub words : s.words ≡ length put ∷ length got ∷ []
  pub order : IsPrefix got put
  pub near : length put ≤ length got + length s.homes
  pub planned : IsPlanned plan put
  -- packet k lies in the slot k modulo the room where it is put and not taken, and each other slot
  -- is empty, but for the two slots of which the ends' views say more
  pub full : (k : ℕ) → length got < k → k < length put
      → get_elem? s.homes (k % length s.homes) ≡ some (some (slice_get put k))
  pub empty : (k : ℕ) → length put < k → k < length got + length s.homes
      → get_elem? s.homes (k % length s.homes) ≡ some (some None)
  pub seat : (id : ℕ) (v : View) → get_elem? s.views id ≡ some v → IsSeat put got v
  pub putter : (id : ℕ) (v : View) → get_elem? s.views id ≡ some v → v.puts ≡ true
      → IsPutter plan s.homes put got v
  pub taker : (id : ℕ) (v : View) → get_elem? s.views id ≡ some v → v.takes ≡ true
      → IsTaker plan s.homes put got v
  pub one_putter : IsOne (λ v. v.puts) s.views
  pub one_taker : IsOne (λ v. v.takes) s.views
