-- Lists of calls of a decoder: the bytes that they feed, the packets that they give, and what they leave.
use Rattle.std.specs.Prelude.{◌≡◌, ℕ, ◌==◌, if◌then◌else◌, List, [], ◌∷◌, ◌++◌, length, Option, None, Some, Result, Ok, Err}
use Rattle.chdr_packets.specs.declared.fault.PacketFault.{PacketFault}
use Rattle.chdr_packets.specs.declared.packet.Packet.{Packet}
use Rattle.chdr_stream.specs.declared.placed.Placed.{Placed}
use Rattle.chdr_stream.specs.declared.placed.StreamFault.{StreamFault}
use Rattle.chdr_stream.specs.Capture.{Reason, reason_of, truncated}
use Rattle.chdr_stream.specs.Stream.{Stream, fed_with, reading, answer_at, after}
use Rattle.chdr_stream.specs.Places.{ArePlaced}

-- bytes are fed; the next packet is asked for, or only passed; or a call ran out of memory
pub data Call : Type 0 where
  feeds : List ℕ → Call
  asks : Call
  fails : Call

-- a new decoder
abbrev pub opened : Stream
opened = record { at = 0; kept = []; fault = None; held = 0 }

-- what a call leaves, by the words of its clauses
abbrev pub with_call : Stream → Call → Stream
with_call s (feeds piece) = fed_with s piece
with_call s asks = after s (reading s)
with_call s fails = s

-- what a decoder returns from `next` if memory suffices
abbrev pub answer_of : Stream → Result (Option Placed) StreamFault
answer_of s = answer_at s (reading s)

-- the packet of an answer
abbrev pub given : Result (Option Placed) StreamFault → List Placed
given (Ok None) = []
given (Ok (Some item)) = item ∷ []
given (Err fault) = []

-- the packet that a call gives
abbrev pub given_with : Stream → Call → List Placed
given_with s (feeds piece) = []
given_with s asks = given (answer_of s)
given_with s fails = []

-- the bytes that a call feeds
abbrev pub fed_with_call : Call → List ℕ
fed_with_call (feeds piece) = piece
fed_with_call asks = []
fed_with_call fails = []

-- what calls leave
abbrev pub with_calls : Stream → List Call → Stream
with_calls s [] = s
with_calls s (call ∷ calls) = with_calls (with_call s call) calls

-- the packets that calls give
abbrev pub given_from : Stream → List Call → List Placed
given_from s [] = []
given_from s (call ∷ calls) = given_with s call ++ given_from (with_call s call) calls

-- what calls on a new decoder leave
abbrev pub decoder_of : List Call → Stream
decoder_of calls = with_calls opened calls

-- the packets that they give
abbrev pub given_by : List Call → List Placed
given_by calls = given_from opened calls

-- the bytes that calls feed
abbrev pub fed_by : List Call → List ℕ
fed_by [] = []
fed_by (call ∷ calls) = fed_with_call call ++ fed_by calls

-- the bytes are the packets given, in order and each at its place, and then the bytes kept
pub record IsRead (fed : List ℕ) (items : List Placed) (at : ℕ) (kept : List ℕ) : Type 0 where
  pub front : List ℕ
  pub whole : fed ≡ front ++ kept
  pub place : at ≡ length front
  pub placed : ArePlaced 0 items front

-- no packet is found: none yet, or a fault
abbrev pub FindsNone : Result (Option (Packet × ℕ)) PacketFault → Type 0
FindsNone (Ok None) = Unit {0}
FindsNone (Ok (Some found)) = ⊥
FindsNone (Err fault) = Unit {0}

-- all packets that are there were given
abbrev pub IsDrained : Stream → Type 0
IsDrained s = FindsNone (reading s)

-- the fault that a drained stream stands at where no bytes are to come
abbrev pub stop_at : Stream → Result (Option (Packet × ℕ)) PacketFault → Option (ℕ × Reason)
stop_at s (Ok found) = if length s.kept == 0 then None else Some (s.at, truncated)
stop_at s (Err fault) = Some (s.at, reason_of fault)
