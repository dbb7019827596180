-- What the packets and the fault shown of bytes are, and that they are the same however the bytes are cut.
use Rattle.std.specs.Prelude.{◌≡◌, ℕ, ◌↔◌, ◌⊎◌, List, [], ◌++◌, length, take, Option, None, Some, Result, Ok, Err}
use Rattle.chdr_packets.specs.declared.fault.PacketFault.{PacketFault}
use Rattle.chdr_packets.specs.declared.packet.Packet.{Packet}
use Rattle.chdr_stream.specs.declared.placed.FinishFault.TheVariants as finishes
use Rattle.chdr_stream.specs.declared.placed.Passed.{Passed}
use Rattle.chdr_stream.specs.declared.placed.Placed.{Placed}
use Rattle.chdr_stream.specs.declared.placed.StreamFault.{StreamFault}
use Rattle.chdr_stream.specs.declared.placed.StreamFault.TheVariants.{Bad}
use Rattle.chdr_stream.specs.Capture.{HasReason, IsCaptureOf, Reason, reason_of, truncated, capture_of}
use Rattle.chdr_packets.specs.Laws.{IsBytes}
use Rattle.chdr_stream.specs.FirstFault.{IsLongestFront, IsFirstFault}
use Rattle.chdr_stream.specs.Places.{packets_of, ArePlaced}
use Rattle.chdr_stream.specs.Stream.{Answers, Stream, reading, finish_at, passing_at}
use Rattle.chdr_stream.specs.Calls.{Call, answer_of, decoder_of, fed_with_call, given, given_from, given_with, with_call, with_calls, given_by, fed_by, IsRead, IsDrained, stop_at}

-- the packets that are shown of bytes
abbrev pub shown : List ℕ → List Packet
shown bytes = packets_of (capture_of bytes).items

-- where what is shown ends
abbrev pub end_of : ℕ → Option (ℕ × Reason) → ℕ
end_of len None = len
end_of len (Some fault) = fault.0

-- no fault is shown exactly where the bytes are a capture of the packets shown
abbrev pub ShowsCaptures : Type 0
ShowsCaptures = (bytes : List ℕ) → IsBytes bytes → ((capture_of bytes).fault ≡ None) ↔ IsCaptureOf (shown bytes) bytes

-- bytes are a capture of one list of packets alone
abbrev pub ShowsOnly : Type 0
ShowsOnly = (bytes : List ℕ) (packets : List Packet) → IsBytes bytes → IsCaptureOf packets bytes → packets ≡ shown bytes

-- bytes are a capture or have a first fault
abbrev pub IsWholeOrFaulty : Type 0
IsWholeOrFaulty = (bytes : List ℕ) → IsBytes bytes → IsCaptureOf (shown bytes) bytes ⊎ ((at : ℕ) × (reason : Reason) × IsFirstFault bytes at reason)

-- a capture has none
abbrev pub HasNone : Type 0
HasNone = (bytes : List ℕ) (packets : List Packet) (at : ℕ) (reason : Reason) → IsBytes bytes → IsCaptureOf packets bytes → ¬ IsFirstFault bytes at reason

-- there is one at most
abbrev pub HasOne : Type 0
HasOne = (bytes : List ℕ) (at place : ℕ) (reason other : Reason) → IsBytes bytes → IsFirstFault bytes at reason → IsFirstFault bytes place other → (at ≡ place) × (reason ≡ other)

-- the fault shown is the first fault
abbrev pub ShowsFirstFault : Type 0
ShowsFirstFault = (bytes : List ℕ) (at : ℕ) (reason : Reason) → IsBytes bytes → ((capture_of bytes).fault ≡ Some (at, reason)) ↔ IsFirstFault bytes at reason

-- the packets shown before it are those of the longest front that is a capture
abbrev pub ShowsLongest : Type 0
ShowsLongest = (bytes : List ℕ) (at : ℕ) (reason : Reason) → IsBytes bytes → (capture_of bytes).fault ≡ Some (at, reason) → IsLongestFront bytes (shown bytes) at

-- each packet shown tells its place, and whether it is canonical
abbrev pub ShowsPlaces : Type 0
ShowsPlaces = (bytes : List ℕ) → IsBytes bytes → ArePlaced 0 (capture_of bytes).items (take (end_of (length bytes) (capture_of bytes).fault) bytes)

-- what `next` answers and leaves, by its clause, is that of one of the calls
abbrev pub IsACall : Type 0
IsACall = (old new : Stream) (answer : Result (Option Placed) StreamFault) → Answers old new answer
    → (call : Call) × (new ≡ with_call old call) × (given answer ≡ given_with old call) × (fed_with_call call ≡ [])

-- an answer without its packet
abbrev pub without_packet : Result (Option Placed) StreamFault → Result (Option Passed) StreamFault
without_packet (Ok None) = Ok None
without_packet (Ok (Some item)) = Ok (Some (record { at = item.at; canonical = item.canonical }))
without_packet (Err fault) = Err fault

-- what `pass` answers is what `next` would, without the packet
abbrev pub PassTells : Type 0
PassTells = (s : Stream) → passing_at s (reading s) ≡ without_packet (answer_of s)

-- as long as no fault stands, the bytes fed are the packets given and the bytes kept
abbrev pub KeepsRest : Type 0
KeepsRest = (calls : List Call) → IsBytes (fed_by calls) → (decoder_of calls).fault ≡ None
    → IsRead (fed_by calls) (given_by calls) (decoder_of calls).at (decoder_of calls).kept

-- a fault answered is the first fault of the bytes fed, whatever follows them, and the packets given are those before it
abbrev pub NamesFault : Type 0
NamesFault = (calls : List Call) (more : List ℕ) (at : ℕ) (fault : PacketFault) → IsBytes (fed_by calls ++ more)
    → answer_of (decoder_of calls) ≡ Err (Bad at fault)
    → IsFirstFault (fed_by calls ++ more) at (reason_of fault) × ArePlaced 0 (given_by calls) (take at (fed_by calls ++ more)) × HasReason fault

-- the place at which the end is refused is the first fault of the bytes fed
abbrev pub NamesCut : Type 0
NamesCut = (calls : List Call) (at : ℕ) → IsBytes (fed_by calls) → reading (decoder_of calls) ≡ Ok None
    → finish_at (decoder_of calls) ≡ Err (finishes.Truncated at) → IsFirstFault (fed_by calls) at truncated

-- where the end is accepted the bytes fed are a capture of the packets given
abbrev pub EndsWhole : Type 0
EndsWhole = (calls : List Call) → IsBytes (fed_by calls) → reading (decoder_of calls) ≡ Ok None
    → finish_at (decoder_of calls) ≡ Ok tt → ArePlaced 0 (given_by calls) (fed_by calls)

-- once no packet is there, the bytes fed alone tell what was given and at which fault the stream stands
abbrev pub IsAnyCut : Type 0
IsAnyCut = (calls : List Call) → IsBytes (fed_by calls) → IsDrained (decoder_of calls)
    → capture_of (fed_by calls) ≡ record { items = given_by calls; fault = stop_at (decoder_of calls) (reading (decoder_of calls)) }

-- two decoders gave the same packets, and answer the same
pub record IsSame (a b : Stream) (given_a given_b : List Placed) : Type 0 where
  pub packets : given_a ≡ given_b
  pub answers : answer_of a ≡ answer_of b
  pub ends : reading a ≡ Ok None → finish_at a ≡ finish_at b

-- lists of calls that feed the same bytes, each until no packet is there, leave the same
abbrev pub IsSameCut : Type 0
IsSameCut = (calls others : List Call) → IsBytes (fed_by calls) → fed_by calls ≡ fed_by others
    → IsDrained (decoder_of calls) → IsDrained (decoder_of others)
    → IsSame (decoder_of calls) (decoder_of others) (given_by calls) (given_by others)

-- at a fault no call changes or gives anything
abbrev pub StaysAtFault : Type 0
StaysAtFault = (s : Stream) (fault : PacketFault) (calls : List Call) → s.fault ≡ Some fault → (with_calls s calls ≡ s) × (given_from s calls ≡ [])
