-- A record of a pcap file: seconds, fraction, stored length and original length of four bytes each, and the frame's bytes that are stored.
use Rattle.std.specs.Prelude.{◌≡◌, ℕ, ◌+◌, ◌-◌, ◌≤◌, nat_lt, if◌then◌else◌, List, length, drop, slice_range, Option, None, Some, Result, Ok, Err}
use Rattle.pcap_input.specs.declared.header.Order.{Order}
use Rattle.pcap_input.specs.declared.item.PcapReason.{PcapReason}
use Rattle.pcap_input.specs.declared.item.PcapReason.TheVariants.{BadRecord}
use Rattle.pcap_input.specs.Header.{number_at}

abbrev pub record_size : ℕ
record_size = 16

-- the most bytes of a frame that are stored
abbrev pub most : ℕ
most = 262144

-- the stored length of the record at the front, if all its bytes are there; nothing yet if they aren't; or that it is too large
unfoldable pub size_read : Order → List ℕ → Result (Option ℕ) PcapReason
size_read order bytes =
    if nat_lt (length bytes) record_size then Ok None else if nat_lt most (number_at order bytes 8) then Err BadRecord
    else if nat_lt (length bytes - record_size) (number_at order bytes 8) then Ok None else Ok (Some (number_at order bytes 8))

-- the frame of the record at the front
abbrev pub frame_at : List ℕ → ℕ → List ℕ
frame_at bytes size = slice_range bytes record_size (record_size + size)

-- the bytes are a record of this frame
pub record IsRecord (order : Order) (frame bytes : List ℕ) : Type 0 where
  pub whole : length bytes ≡ record_size + length frame
  pub stored : number_at order bytes 8 ≡ length frame
  pub few : length frame ≤ most
  pub rest : drop record_size bytes ≡ frame
