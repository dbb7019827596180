-- A list of packets as contracts see it.
use Rattle.std.specs.Prelude.{ℕ, List}
use Rattle.chdr_packets.specs.declared.packet.Packet.{Packet}

-- packets in the order in which they leave, and how many more find room without memory
pub record PacketsSeen : Type 0 where
  pub packets : List Packet
  pub spare : ℕ
