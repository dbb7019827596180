-- The laws of packets, their spellings and their reading, for the crates above.
use Rattle.std.specs.Prelude.{◌≡◌, ◌≢◌, ℕ, ◌<◌, ◌≤◌, ◌^◌, ◌++◌, ◌↔◌, All, IsTrue, List, length, take, Some, None, Ok, Err}
use Rattle.chdr_packets.specs.declared.fault.PacketFault.{PacketFault}
use Rattle.chdr_packets.specs.declared.fault.PacketFault.TheVariants.{Memory}
use Rattle.chdr_packets.specs.declared.packet.Packet.{Packet}
use Rattle.chdr_packets.specs.Fits.{FitsPacket}
use Rattle.chdr_packets.specs.Grammar.{IsCanon, Spells, is_plain}
use Rattle.chdr_packets.specs.Ranges.{IsRanged}
use Rattle.chdr_packets.specs.Reading.{packet_read}
use Rattle.chdr_packets.specs.Refusals.{IsShort, Refuses}

-- numbers that bytes have
abbrev pub IsBytes : List ℕ → Type 0
IsBytes bytes = All (λ byte. byte < 2 ^ 8) bytes

-- The packet at the front of bytes and its size are unique.
abbrev pub OneAtFront : Type 0
OneAtFront = (bytes : List ℕ) (p q : Packet) (m n : ℕ) → m ≤ length bytes → n ≤ length bytes
    → Spells p (take m bytes) → Spells q (take n bytes) → (p ≡ q) × (m ≡ n)

-- What is spelled is read back with its size, whatever follows it.
abbrev pub ReadsBack : Type 0
ReadsBack = (p : Packet) (bytes more : List ℕ) → Spells p bytes
    → packet_read (bytes ++ more) ≡ Ok (Some (p, length bytes))

-- A packet that has a spelling fits.
abbrev pub SpelledFits : Type 0
SpelledFits = (p : Packet) (bytes : List ℕ) → Spells p bytes → FitsPacket p

-- A packet that fits has a canonical spelling, of bytes.
abbrev pub FittingSpelled : Type 0
FittingSpelled = (p : Packet) → IsRanged p → FitsPacket p → (bytes : List ℕ) × IsBytes bytes × IsCanon p bytes

-- A packet has one canonical spelling at most.
abbrev pub OneCanon : Type 0
OneCanon = (p : Packet) (a b : List ℕ) → IsBytes a → IsBytes b → IsCanon p a → IsCanon p b → a ≡ b

-- What is read takes at least a header, and lies within the bytes.
abbrev pub ReadWithin : Type 0
ReadWithin = (bytes : List ℕ) (p : Packet) (n : ℕ) → packet_read bytes ≡ Ok (Some (p, n)) → (n ≤ length bytes) × (8 ≤ n)

-- What is read is spelled by the bytes that it takes, and fits.
abbrev pub ReadSpelled : Type 0
ReadSpelled = (bytes : List ℕ) (p : Packet) (n : ℕ) → IsBytes bytes → packet_read bytes ≡ Ok (Some (p, n))
    → Spells p (take n bytes) × FitsPacket p

-- The bytes that it takes are its canonical spelling exactly if they are marked so.
abbrev pub ReadMarked : Type 0
ReadMarked = (bytes : List ℕ) (p : Packet) (n : ℕ) → IsBytes bytes → packet_read bytes ≡ Ok (Some (p, n))
    → IsTrue (is_plain bytes) ↔ IsCanon p (take n bytes)

-- What follows changes neither a packet that was read nor its mark.
abbrev pub ReadStands : Type 0
ReadStands = (bytes more : List ℕ) (p : Packet) (n : ℕ) → packet_read bytes ≡ Ok (Some (p, n))
    → (packet_read (bytes ++ more) ≡ Ok (Some (p, n))) × (is_plain (bytes ++ more) ≡ is_plain bytes)

-- What follows doesn't change a fault.
abbrev pub FaultStands : Type 0
FaultStands = (bytes more : List ℕ) (fault : PacketFault) → packet_read bytes ≡ Err fault
    → packet_read (bytes ++ more) ≡ Err fault

-- Nothing is read yet exactly if bytes are missing.
abbrev pub NoneExactly : Type 0
NoneExactly = (bytes : List ℕ) → (packet_read bytes ≡ Ok None) ↔ IsShort bytes

-- Each fault is read exactly if its test is the first that fails.
abbrev pub RefusedExactly : Type 0
RefusedExactly = (bytes : List ℕ) → IsBytes bytes → Refuses (packet_read bytes) bytes

-- Reading by definition never runs out of memory.
abbrev pub NoMemory : Type 0
NoMemory = (bytes : List ℕ) → packet_read bytes ≢ Err Memory
