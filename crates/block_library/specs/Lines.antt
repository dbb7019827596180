-- The line of a sink: what it took, counted in packets and in samples.
use Rattle.std.specs.Prelude.{◌≡◌, ℕ, ◌+◌, ◌-◌, ◌^◌, ◌==◌, List, [], ◌∷◌, ◌++◌, length, min, sum_by, nat_le, if◌then◌else◌, Option, None, Some}
use Rattle.std.specs.Option.{option_or}
use Rattle.chdr_packets.specs.declared.packet.Packet.{Packet}
use Rattle.chdr_words.specs.Field.{word_at, half_at}
use Rattle.block_library.specs.declared.line.Line.{Line}
use Rattle.block_library.specs.Blocks.{payload_in, samples_in}

-- the samples of a packet, as bytes
abbrev pub payload_of : Packet → List ℕ
payload_of packet = payload_in packet.body

-- the number that the sample of `item` bytes at a place spells
abbrev pub number_at : ℕ → List ℕ → ℕ → ℕ
number_at item bytes at = if item == 8 then word_at bytes at else half_at bytes at

-- the first and the last sample of a packet
abbrev pub first_in : ℕ → List ℕ → Option ℕ
first_in item bytes = if nat_le item (length bytes) then Some (number_at item bytes 0) else None

abbrev pub last_in : ℕ → List ℕ → Option ℕ
last_in item bytes = if nat_le item (length bytes) then Some (number_at item bytes (length bytes - item)) else None

-- the first and the last sample of a list of packets
unfoldable pub first_of : ℕ → List Packet → Option ℕ
first_of item [] = None
first_of item (packet ∷ rest) = option_or (first_in item (payload_of packet)) (first_of item rest)

unfoldable pub last_of : ℕ → List Packet → Option ℕ
last_of item [] = None
last_of item (packet ∷ rest) = option_or (last_of item rest) (last_in item (payload_of packet))

-- a count that stands still at its type's end
abbrev pub stands_still : ℕ → ℕ
stands_still count = min count (2 ^ 64 - 1)

-- the line of a block that took these packets of samples of `item` bytes
abbrev pub line_of : ℕ → ℕ → List Packet → Line
line_of block item packets = record {
  block = block;
  packets = stands_still (length packets);
  samples = stands_still (sum_by (samples_in item) packets);
  first = first_of item packets;
  last = last_of item packets;
}

-- the line of a block that took nothing
abbrev pub empty_line : ℕ → Line
empty_line block = record { block = block; packets = 0; samples = 0; first = None; last = None }

-- the line with one packet more
abbrev pub line_with : ℕ → Line → Packet → Line
line_with item line packet = record {
  block = line.block;
  packets = stands_still (line.packets + 1);
  samples = stands_still (line.samples + samples_in item packet);
  first = option_or line.first (first_in item (payload_of packet));
  last = option_or (last_in item (payload_of packet)) line.last;
}

-- what a law says of lines: a list of packets is counted packet by packet, from nothing on
abbrev pub LinesGrow : Type 0
LinesGrow = ((block item : ℕ) → line_of block item [] ≡ empty_line block)
    × ((block item : ℕ) (packets : List Packet) (packet : Packet) →
    line_of block item (packets ++ packet ∷ []) ≡ line_with item (line_of block item packets) packet)
