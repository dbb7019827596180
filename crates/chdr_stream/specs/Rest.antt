-- What a decoder still shows where more bytes follow: the packets behind those given, and the first fault.
use Rattle.std.specs.Prelude.{◌≡◌, ℕ, ◌≤◌, ◌==◌, if◌then◌else◌, List, [], ◌++◌, length, Option, None, Some, Ok, Err}
use Rattle.chdr_packets.specs.declared.fault.PacketFault.{PacketFault}
use Rattle.chdr_packets.specs.declared.packet.Packet.{Packet}
use Rattle.chdr_stream.specs.declared.placed.StreamFault.TheVariants.{Bad}
use Rattle.chdr_stream.specs.Capture.{reason_of, truncated, Capture, behind, capture_from, capture_of}
use Rattle.chdr_stream.specs.Stream.{Stream, fed_with, reading, after}
use Rattle.chdr_stream.specs.Calls.{answer_of, given, opened}

-- behind a fault nothing more is shown
abbrev pub rest_past : Option PacketFault → ℕ → List ℕ → Capture
rest_past None at bytes = capture_from 0 at bytes
rest_past (Some fault) at bytes = record { items = []; fault = Some (at, reason_of fault) }

-- what is shown of the bytes kept and of those that follow
unfoldable pub rest_of : Stream → List ℕ → Capture
rest_of s more = rest_past s.fault s.at (s.kept ++ more)

-- a new decoder shows what its bytes are
abbrev pub ShowsAll : Type 0
ShowsAll = (bytes : List ℕ) → rest_of opened bytes ≡ capture_of bytes

-- bytes that are fed are the first of those that follow
abbrev pub ShowsFed : Type 0
ShowsFed = (s : Stream) (piece more : List ℕ) → rest_of (fed_with s piece) more ≡ rest_of s (piece ++ more)

-- what is given is shown first, whatever follows
abbrev pub ShowsGiven : Type 0
ShowsGiven = (s : Stream) (more : List ℕ) → rest_of s more ≡ behind (given (answer_of s)) (rest_of (after s (reading s)) more)

-- a fault that is answered is shown, whatever follows
abbrev pub ShowsFault : Type 0
ShowsFault = (s : Stream) (more : List ℕ) (at : ℕ) (fault : PacketFault) → answer_of s ≡ Err (Bad at fault)
    → rest_of s more ≡ record { items = []; fault = Some (at, reason_of fault) }

-- where nothing follows, bytes that are no whole packet are cut off
abbrev pub ShowsCut : Type 0
ShowsCut = (s : Stream) → reading s ≡ Ok None
    → rest_of s [] ≡ record { items = []; fault = if length s.kept == 0 then None else Some (s.at, truncated) }

-- a packet is of eight bytes or more, all of them kept
abbrev pub PassesBytes : Type 0
PassesBytes = (s : Stream) (packet : Packet) (size : ℕ) → reading s ≡ Ok (Some (packet, size)) → (8 ≤ size) × (size ≤ length s.kept)
