-- Numbers of packets and bytes, whole and as they are spelled: modulo 2^40 and 2^64.
use Rattle.std.specs.Prelude.{ℕ, ◌+◌, ◌-◌, ◌%◌, ◌^◌, Bool, ◌&&◌, ◌==◌}
use Rattle.stream_endpoint.specs.declared.count.Count.{Count}

abbrev pub count : ℕ → ℕ → Count
count packets bytes = record { packets = packets; bytes = bytes }

abbrev pub none : Count
none = record { packets = 0; bytes = 0 }

-- one packet of this wire size
abbrev pub one_of : ℕ → Count
one_of wire = record { packets = 1; bytes = wire }

abbrev pub plus : Count → Count → Count
plus a b = record { packets = a.packets + b.packets; bytes = a.bytes + b.bytes }

-- a minus b, when b is part of a
abbrev pub minus : Count → Count → Count
minus a b = record { packets = a.packets - b.packets; bytes = a.bytes - b.bytes }

abbrev pub is_none : Count → Bool
is_none a = (a.packets == 0) && (a.bytes == 0)

-- how a status or a command spells a count
abbrev pub spelled : Count → Count
spelled a = record { packets = a.packets % 2 ^ 40; bytes = a.bytes % 2 ^ 64 }

-- the remainder of a minus b, also when b is greater
abbrev pub minus_modulo : ℕ → ℕ → ℕ → ℕ
minus_modulo m a b = (a + (m - b % m)) % m

-- a minus b as far as their spellings tell
abbrev pub spelled_minus : Count → Count → Count
spelled_minus a b = record {
  packets = minus_modulo (2 ^ 40) a.packets b.packets;
  bytes = minus_modulo (2 ^ 64) a.bytes b.bytes;
}
