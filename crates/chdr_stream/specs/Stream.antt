-- A decoder: its place, the bytes that it keeps and holds, and the fault that it stands at.
use Rattle.std.specs.Prelude.{◌≡◌, ℕ, ◌+◌, ◌==◌, if◌then◌else◌, List, ◌++◌, drop, length, Option, None, Some, Result, Ok, Err}
use Rattle.chdr_packets.specs.Grammar.{is_plain}
use Rattle.chdr_packets.specs.Reading.{packet_read}
use Rattle.chdr_packets.specs.declared.fault.PacketFault.{PacketFault}
use Rattle.chdr_packets.specs.declared.packet.Packet.{Packet}
use Rattle.chdr_stream.specs.declared.placed.Placed.{Placed}
use Rattle.chdr_stream.specs.declared.placed.Passed.{Passed}
use Rattle.chdr_stream.specs.declared.placed.FinishFault.{FinishFault}
use Rattle.chdr_stream.specs.declared.placed.FinishFault.TheVariants.{Truncated}
use Rattle.chdr_stream.specs.declared.placed.StreamFault.{StreamFault}
use Rattle.chdr_stream.specs.declared.placed.StreamFault.TheVariants.{Bad, Memory}

-- `held` counts the bytes kept, and those passed that still take memory
pub record Stream : Type 0 where
  pub at : ℕ
  pub kept : List ℕ
  pub fault : Option PacketFault
  pub held : ℕ

-- more bytes are kept; behind a fault none
abbrev pub fed_with : Stream → List ℕ → Stream
fed_with s piece = record s { kept = kept_with s.fault s.kept piece; held = held_with s.fault s.held piece }
  where
    kept_with : Option PacketFault → List ℕ → List ℕ → List ℕ
    kept_with None kept piece = kept ++ piece
    kept_with (Some fault) kept piece = kept

    held_with : Option PacketFault → ℕ → List ℕ → ℕ
    held_with None held piece = held + length piece
    held_with (Some fault) held piece = held

-- what is found at the front of the bytes kept, unless it stands at a fault
abbrev pub reading : Stream → Result (Option (Packet × ℕ)) PacketFault
reading s = read_past s.fault s.kept
  where
    read_past : Option PacketFault → List ℕ → Result (Option (Packet × ℕ)) PacketFault
    read_past None kept = packet_read kept
    read_past (Some fault) kept = Err fault

-- the answer for what is found at a place
abbrev pub answer_at : Stream → Result (Option (Packet × ℕ)) PacketFault → Result (Option Placed) StreamFault
answer_at s (Ok None) = Ok None
answer_at s (Ok (Some found)) = Ok (Some (record { at = s.at; canonical = is_plain s.kept; packet = found.0 }))
answer_at s (Err fault) = Err (Bad s.at fault)

-- the same of a packet that is only passed
abbrev pub passing_at : Stream → Result (Option (Packet × ℕ)) PacketFault → Result (Option Passed) StreamFault
passing_at s (Ok None) = Ok None
passing_at s (Ok (Some found)) = Ok (Some (record { at = s.at; canonical = is_plain s.kept }))
passing_at s (Err fault) = Err (Bad s.at fault)

-- past this number of bytes
abbrev pub past : Stream → ℕ → Stream
past s size = record s { at = s.at + size; kept = drop size s.kept }

-- at a fault for good
abbrev pub stopped : Stream → PacketFault → Stream
stopped s fault = record s { fault = Some fault }

-- bytes that were passed are let go
abbrev pub released : Stream → Stream
released s = record s { held = length s.kept }

-- the state behind what is found; if nothing is, only the bytes kept are held
abbrev pub after : Stream → Result (Option (Packet × ℕ)) PacketFault → Stream
after s (Ok None) = released s
after s (Ok (Some found)) = past s found.1
after s (Err fault) = stopped s fault

-- the answer is that, and the state moved on, unless memory ran out, where it stays
abbrev pub Answers : Stream → Stream → Result (Option Placed) StreamFault → Type 0
Answers old new (Ok found) = (answer_at old (reading old) ≡ Ok found) × (new ≡ after old (reading old))
Answers old new (Err (Bad at fault)) = (answer_at old (reading old) ≡ Err (Bad at fault)) × (new ≡ after old (reading old))
Answers old new (Err Memory) = new ≡ old

-- the end is refused exactly where bytes are left, at the place where they begin
abbrev pub finish_at : Stream → Result (Unit {0}) FinishFault
finish_at s = if length s.kept == 0 then Ok tt else Err (Truncated s.at)
