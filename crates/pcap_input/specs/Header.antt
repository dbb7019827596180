-- The header of a classic pcap file: 24 bytes, whose magic number fixes the byte order of all header numbers.
use Rattle.std.specs.Prelude.{◌≡◌, ℕ, ◌+◌, ◌*◌, ◌%◌, ◌==◌, ◌||◌, Bool, nat_lt, if◌then◌else◌, List, length, slice_index, Option, None, Some, Result, Ok, Err}
use Rattle.pcap_input.specs.declared.header.Order.{Order}
use Rattle.pcap_input.specs.declared.header.Order.TheVariants.{Little, Big}
use Rattle.pcap_input.specs.declared.item.PcapReason.{PcapReason}
use Rattle.pcap_input.specs.declared.item.PcapReason.TheVariants.{BadMagic, BadVersion, BadLink}

-- two bytes as a number; a byte that isn't there reads as 0
abbrev pub half_at : Order → List ℕ → ℕ → ℕ
half_at Little bytes at = slice_index bytes at + 256 * slice_index bytes (at + 1)
half_at Big bytes at = 256 * slice_index bytes at + slice_index bytes (at + 1)

-- four bytes as a number
abbrev pub number_at : Order → List ℕ → ℕ → ℕ
number_at Little bytes at = half_at Little bytes at + 65536 * half_at Little bytes (at + 2)
number_at Big bytes at = 65536 * half_at Big bytes at + half_at Big bytes (at + 2)

abbrev pub header_size : ℕ
header_size = 24

-- of microseconds and of nanoseconds
abbrev pub is_magic : ℕ → Bool
is_magic number = number == 0xa1b2c3d4 || number == 0xa1b23c4d

-- the order in which the first number is a magic number
abbrev pub order_of : List ℕ → Option Order
order_of bytes = if is_magic (number_at Little bytes 0) then Some Little else if is_magic (number_at Big bytes 0) then Some Big else None

-- the tests behind the magic number: major version 2 in bytes 4 and 5, Ethernet in the low half of the link type from byte 20 on
abbrev pub ordered : Option Order → List ℕ → Result (Option Order) PcapReason
ordered None bytes = Err BadMagic
ordered (Some order) bytes =
    if half_at order bytes 4 == 2 then (if number_at order bytes 20 % 65536 == 1 then Ok (Some order) else Err BadLink) else Err BadVersion

-- the order that the header at the front fixes; nothing yet if it isn't whole; or the first test that fails
unfoldable pub header_read : List ℕ → Result (Option Order) PcapReason
header_read bytes = if nat_lt (length bytes) header_size then Ok None else ordered (order_of bytes) bytes

-- the bytes are a header in this order
pub record IsHeader (order : Order) (bytes : List ℕ) : Type 0 where
  pub whole : length bytes ≡ header_size
  pub good : header_read bytes ≡ Ok (Some order)
