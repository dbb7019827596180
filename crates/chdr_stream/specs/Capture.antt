-- Captures: packets end to end, and the first fault among bytes.
use Rattle.std.specs.Prelude.{◌≡◌, ℕ, zero, suc, ◌+◌, ◌-◌, List, [], ◌∷◌, ◌++◌, length, Option, None, Some, Result, Ok, Err}
use Rattle.chdr_words.specs.declared.fault.MsgFault.TheVariants as messages
use Rattle.chdr_packets.specs.Grammar.{Spells, is_plain}
use Rattle.chdr_packets.specs.Reading.{packet_read}
use Rattle.chdr_packets.specs.declared.fault.PacketFault.{PacketFault}
use Rattle.chdr_packets.specs.declared.fault.PacketFault.TheVariants.{ReservedType, BadLength, Message, Memory}
use Rattle.chdr_packets.specs.declared.packet.Packet.{Packet}
use Rattle.chdr_stream.specs.declared.placed.Placed.{Placed}

-- the bytes are spellings of the packets, in order
abbrev pub IsCaptureOf : List Packet → List ℕ → Type 0
IsCaptureOf [] bytes = bytes ≡ []
IsCaptureOf (p ∷ ps) bytes = (front : List ℕ) × (rest : List ℕ) × (bytes ≡ front ++ rest) × Spells p front × IsCaptureOf ps rest

-- why a capture ends before its bytes do: the fault of a packet, or a packet that isn't whole
pub data Reason : Type 0 where
  reserved_type : Reason
  bad_length : Reason
  bad_status_length : Reason
  bad_command_length : Reason
  bad_control_length : Reason
  bad_management : Reason
  truncated : Reason

-- the reason that a fault is; only a management payload takes memory
abbrev pub reason_of : PacketFault → Reason
reason_of ReservedType = reserved_type
reason_of BadLength = bad_length
reason_of (Message messages.BadStatusLength) = bad_status_length
reason_of (Message messages.BadCommandLength) = bad_command_length
reason_of (Message messages.BadControlLength) = bad_control_length
reason_of (Message messages.BadManagement) = bad_management
reason_of (Message messages.Memory) = bad_management
reason_of Memory = bad_management

-- a fault that bytes have: reading finds no running out of memory
abbrev pub HasReason : PacketFault → Type 0
HasReason ReservedType = Unit {0}
HasReason BadLength = Unit {0}
HasReason (Message messages.BadStatusLength) = Unit {0}
HasReason (Message messages.BadCommandLength) = Unit {0}
HasReason (Message messages.BadControlLength) = Unit {0}
HasReason (Message messages.BadManagement) = Unit {0}
HasReason (Message messages.Memory) = ⊥
HasReason Memory = ⊥

-- the packets of a capture with their places, and its first fault with its place
pub record Capture : Type 0 where
  pub items : List Placed
  pub fault : Option (ℕ × Reason)

-- the capture with packets in front
abbrev pub behind : List Placed → Capture → Capture
behind items c = record { items = items ++ c.items; fault = c.fault }

-- what stands at a place by what reading finds there; the rest follows behind the packet's other bytes
abbrev pub part_at : ℕ → List ℕ → Result (Option (Packet × ℕ)) PacketFault → (ℕ → Capture) → Capture
part_at at bytes (Ok None) rest = record { items = []; fault = Some (at, truncated) }
part_at at bytes (Ok (Some found)) rest = behind (record { at = at; canonical = is_plain bytes; packet = found.0 } ∷ []) (rest (found.1 - 1))
part_at at bytes (Err fault) rest = record { items = []; fault = Some (at, reason_of fault) }

-- the capture behind this number of bytes of a packet, from a place on
unfoldable pub capture_from : ℕ → ℕ → List ℕ → Capture
capture_from skip at [] = record { items = []; fault = None }
capture_from (suc skip) at (byte ∷ bytes) = capture_from skip (at + 1) bytes
capture_from zero at (byte ∷ bytes) = part_at at (byte ∷ bytes) (packet_read (byte ∷ bytes)) (λ skip. capture_from skip (at + 1) bytes)

-- the capture that bytes are, from their beginning
abbrev pub capture_of : List ℕ → Capture
capture_of bytes = capture_from 0 0 bytes

-- the bytes so far are these packets and the bytes kept from a place on: whatever follows, the capture goes on from there
pub record Decoded (fed : List ℕ) (done : List Placed) (at : ℕ) (kept : List ℕ) : Type 0 where
  pub place : at + length kept ≡ length fed
  pub goes_on : (more : List ℕ) → capture_of (fed ++ more) ≡ behind done (capture_from 0 at (kept ++ more))
