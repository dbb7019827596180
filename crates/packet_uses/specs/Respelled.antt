-- A packet that is read and spelled again.
use Rattle.std.specs.Prelude.{◌≡◌, ℕ, ◌≤◌, List, length, take, Option, None, Some, Result, Ok, Err}
use Rattle.chdr_packets.specs.Grammar.{IsCanon, Spells}
use Rattle.chdr_packets.specs.Reading.{packet_read}
use Rattle.chdr_packets.specs.Refusals.{HasBadLength, HasBadPayload, IsReserved, IsShort}
use Rattle.chdr_packets.specs.declared.fault.PacketFault.{PacketFault}
use Rattle.chdr_packets.specs.declared.fault.PacketFault.TheVariants.{ReservedType, BadLength, Message, Memory}
use Rattle.chdr_packets.specs.declared.packet.Packet.{Packet}

-- the bytes begin with a spelling of a packet, and `again` is its canonical one, which is read as the same packet
pub record IsRespelled (bytes again : List ℕ) : Type 0 where
  pub packet : Packet
  pub size : ℕ
  pub within : size ≤ length bytes
  pub spells : Spells packet (take size bytes)
  pub canonical : IsCanon packet again
  pub reads : packet_read again ≡ Ok (Some (packet, length again))

-- why there is no packet at the front of the bytes
abbrev pub IsRefusedBy : PacketFault → List ℕ → Type 0
IsRefusedBy ReservedType bytes = IsReserved bytes
IsRefusedBy BadLength bytes = HasBadLength bytes
IsRefusedBy (Message fault) bytes = HasBadPayload fault bytes
IsRefusedBy Memory bytes = Unit {0}

-- the packet at the front is spelled again, bytes are missing, or there is none
abbrev pub Respells : List ℕ → Result (Option (List ℕ)) PacketFault → Type 0
Respells bytes (Ok None) = IsShort bytes
Respells bytes (Ok (Some again)) = IsRespelled bytes again
Respells bytes (Err fault) = IsRefusedBy fault bytes
