-- The first fault of bytes, told by the captures among their fronts and by the tests of a packet.
use Rattle.std.specs.Prelude.{ℕ, ◌<◌, ◌≤◌, List, length, take, drop}
use Rattle.chdr_words.specs.declared.fault.MsgFault.TheVariants.{BadStatusLength, BadCommandLength, BadControlLength, BadManagement}
use Rattle.chdr_packets.specs.Refusals.{HasBadLength, HasBadPayload, IsReserved, IsShort}
use Rattle.chdr_packets.specs.declared.packet.Packet.{Packet}
use Rattle.chdr_stream.specs.Capture.{IsCaptureOf, Reason, reserved_type, bad_length, bad_status_length, bad_command_length, bad_control_length, bad_management, truncated}

-- of all fronts of the bytes that are a capture, the longest has these packets and this length
pub record IsLongestFront (bytes : List ℕ) (packets : List Packet) (at : ℕ) : Type 0 where
  pub within : at ≤ length bytes
  pub front : IsCaptureOf packets (take at bytes)
  pub longest : (others : List Packet) (n : ℕ) → n ≤ length bytes → IsCaptureOf others (take n bytes) → n ≤ at

-- the first test of a packet that fails at the front of the bytes; there are some, where they are too few
abbrev pub FailsBy : Reason → List ℕ → Type 0
FailsBy reserved_type bytes = IsReserved bytes
FailsBy bad_length bytes = HasBadLength bytes
FailsBy bad_status_length bytes = HasBadPayload BadStatusLength bytes
FailsBy bad_command_length bytes = HasBadPayload BadCommandLength bytes
FailsBy bad_control_length bytes = HasBadPayload BadControlLength bytes
FailsBy bad_management bytes = HasBadPayload BadManagement bytes
FailsBy truncated bytes = IsShort bytes × (0 < length bytes)

-- the first fault stands behind the longest front that is a capture
pub record IsFirstFault (bytes : List ℕ) (at : ℕ) (reason : Reason) : Type 0 where
  pub packets : List Packet
  pub longest : IsLongestFront bytes packets at
  pub fails : FailsBy reason (drop at bytes)
