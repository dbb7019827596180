-- The packets that are collected of a stream in pieces, and where they end.
use Rattle.std.specs.Prelude.{◌≡◌, ℕ, List, [], ◌∷◌, ◌++◌, Option, None, Some, Ok}
use Rattle.chdr_stream.specs.Capture.{Capture, Reason, behind, reason_of, truncated}
use Rattle.chdr_stream.specs.Rest.{rest_of}
use Rattle.chdr_stream.specs.Stream.{Stream, reading}
use Rattle.chdr_stream.specs.declared.placed.Placed.{Placed}
use Rattle.packet_uses.specs.declared.collecting.Collected.{Collected}
use Rattle.packet_uses.specs.declared.collecting.End.{End}
use Rattle.packet_uses.specs.declared.collecting.End.TheVariants.{Whole, Truncated, Bad}

-- the bytes of all pieces, end to end
abbrev pub joined : List (List ℕ) → List ℕ
joined [] = []
joined (piece ∷ pieces) = piece ++ joined pieces

-- the fault that an end tells
abbrev pub fault_of : End → Option (ℕ × Reason)
fault_of Whole = None
fault_of (Truncated at) = Some (at, truncated)
fault_of (Bad at fault) = Some (at, reason_of fault)

-- what was collected, as what bytes show
abbrev pub shown : Collected → Capture
shown found = record { items = found.packets; fault = fault_of found.end }

-- the packets taken before and those that a decoder still shows are the same, whatever follows
abbrev pub ShowsSame : Stream → Stream → List Placed → List Placed → Type 0
ShowsSame old new packets taken = (more : List ℕ) → behind packets (rest_of old more) ≡ behind taken (rest_of new more)

-- the packets that are there were taken and no fault stands, or they are those before this end, whatever follows
abbrev pub Takes : Stream → Stream → List Placed → List Placed → Option End → Type 0
Takes old new packets taken None = ShowsSame old new packets taken × (reading new ≡ Ok None)
Takes old new packets taken (Some end) = (more : List ℕ) → behind packets (rest_of old more) ≡ record { items = taken; fault = fault_of end }
