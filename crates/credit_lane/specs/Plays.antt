-- What each step of a lane tells the seat that takes it.
use Rattle.std.specs.Prelude.{◌≡◌, ℕ, ◌+◌, ◌%◌, ◌≤◌, true, false}
use Rattle.std.specs.Prelude.{List, [], ◌∷◌, ◌++◌, length, Option, None, slice_get, option_to_list}
use mathlib.Core.List.{IsPrefix}
use Rattle.atomic_table.specs.Table.{Me, Step, rest}
use Rattle.chdr_packets.specs.declared.packet.Packet.{Packet}
use Rattle.credit_lane.specs.declared.rule.View.{View}
use Rattle.credit_lane.specs.Planned.{IsPlanned}

abbrev pub Seated : Type 0
Seated = Me (Option Packet) View

abbrev pub filling : View → View
filling v = record v { fills = true }

abbrev pub emptying : View → View
emptying v = record v { empties = true }

-- the packets in the slot that was taken last
abbrev pub in_hand : List (ℕ × Option Packet) → List Packet
in_hand [] = []
in_hand (slot ∷ slots) = option_to_list slot.1

abbrev pub filled : View → List Packet → View
filled v packets = record v { fills = false; put = v.put ++ packets }

abbrev pub emptied : View → List Packet → View
emptied v packets = record v { empties = false; got = v.got ++ packets }

abbrev pub knows_taken : View → List Packet → View
knows_taken v packets = record v { got = packets }

abbrev pub knows_put : View → List Packet → View
knows_put v packets = record v { put = packets }

-- the next packet that a taker knows to be put
abbrev pub next_of : View → Option Packet
next_of v = slice_get v.put (length v.got)

-- the putter takes the empty slot of its count
abbrev pub takes_empty : Step (Option Packet) → Seated → Seated → Type 0
takes_empty s m w = w ≡ (filling m.0, (length m.0.put % s.slots, None) ∷ m.1)

-- the putter gives the slot back, and what it holds is put
abbrev pub gives_full : Seated → Seated → Type 0
gives_full m w = w ≡ (filled m.0 (in_hand m.1), rest m.1)

-- the putter learns which packets are taken, as many as the word says
abbrev pub sees_taken : Seated → ℕ → Seated → Type 0
sees_taken m n w =
    (w ≡ (knows_taken m.0 w.0.got, m.1)) × (length w.0.got ≡ n)
    × IsPrefix m.0.got w.0.got × IsPrefix w.0.got m.0.put

-- the taker takes the slot of its count, with the packet in it
abbrev pub takes_full : Step (Option Packet) → Seated → Seated → Type 0
takes_full s m w = w ≡ (emptying m.0, (length m.0.got % s.slots, next_of m.0) ∷ m.1)

-- the taker gives the slot back, and the packet is taken
abbrev pub gives_empty : Seated → Seated → Type 0
gives_empty m w = w ≡ (emptied m.0 (option_to_list (next_of m.0)), rest m.1)

-- the taker learns which packets are put, as many as the word says
abbrev pub sees_put : Step (Option Packet) → Seated → ℕ → Seated → Type 0
sees_put s m n w =
    (w ≡ (knows_put m.0 w.0.put, m.1)) × (length w.0.put ≡ n)
    × IsPrefix m.0.put w.0.put × IsPrefix m.0.got w.0.put
    × IsPlanned m.0.plan w.0.put × (length w.0.put ≤ length m.0.got + s.slots)

-- who is both ends learns how the two lists stand to one another, and to what each side knew
abbrev pub compares : Step (Option Packet) → Seated → Seated → Type 0
compares s m w =
    (w ≡ m) × IsPrefix m.0.got m.0.put × (length m.0.put ≤ length m.0.got + s.slots)
    × IsPrefix m.0.heard_put m.0.put × IsPrefix m.0.heard_got m.0.got
