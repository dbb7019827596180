-- A classic pcap file: a header and records end to end; and what is shown of bytes, whatever they are.
use Rattle.std.specs.Prelude.{◌≡◌, ℕ, zero, suc, ◌+◌, ◌-◌, List, [], ◌∷◌, ◌++◌, drop, Option, None, Some, Result, Ok, Err}
use Rattle.pcap_input.specs.declared.header.Order.{Order}
use Rattle.pcap_input.specs.declared.item.PcapItem.{PcapItem}
use Rattle.pcap_input.specs.declared.item.PcapReason.{PcapReason}
use Rattle.pcap_input.specs.Header.{IsHeader, header_read, header_size}
use Rattle.pcap_input.specs.Record.{IsRecord, frame_at, record_size, size_read}
use Rattle.pcap_input.specs.Frame.{item_of}

-- the bytes are records of these frames, in order
abbrev pub AreRecords : Order → List (List ℕ) → List ℕ → Type 0
AreRecords order [] bytes = bytes ≡ []
AreRecords order (frame ∷ frames) bytes = (front : List ℕ) × (rest : List ℕ) × (bytes ≡ front ++ rest) × IsRecord order frame front × AreRecords order frames rest

-- the bytes are a file of these frames
pub record IsPcapOf (order : Order) (frames : List (List ℕ)) (bytes : List ℕ) : Type 0 where
  pub header : List ℕ
  pub records : List ℕ
  pub splits : bytes ≡ header ++ records
  pub headed : IsHeader order header
  pub recorded : AreRecords order frames records

-- what the frames of the records from this number on are
abbrev pub items_of : ℕ → ℕ → List (List ℕ) → List PcapItem
items_of port number [] = []
items_of port number (frame ∷ frames) = item_of port number frame ∷ items_of port (number + 1) frames

-- why a file ends before its bytes do: a test that fails, or a header or record that isn't whole
pub data Why : Type 0 where
  bad : PcapReason → Why
  truncated : Why

-- what the records of a file are, and the first fault with its place
pub record File : Type 0 where
  pub items : List PcapItem
  pub fault : Option (ℕ × Why)

-- the file with items in front
abbrev pub behind : List PcapItem → File → File
behind items f = record { items = items ++ f.items; fault = f.fault }

-- what stands at a place by what is found there; the rest follows behind the record's other bytes
abbrev pub part_at : ℕ → ℕ → ℕ → List ℕ → Result (Option ℕ) PcapReason → (ℕ → File) → File
part_at port number at bytes (Ok None) rest = record { items = []; fault = Some (at, truncated) }
part_at port number at bytes (Ok (Some size)) rest = behind (item_of port number (frame_at bytes size) ∷ []) (rest (record_size + size - 1))
part_at port number at bytes (Err reason) rest = record { items = []; fault = Some (at, bad reason) }

-- the records behind this number of bytes of one, from a place on
unfoldable pub records_from : ℕ → Order → ℕ → ℕ → ℕ → List ℕ → File
records_from port order number skip at [] = record { items = []; fault = None }
records_from port order number (suc skip) at (byte ∷ bytes) = records_from port order number skip (at + 1) bytes
records_from port order number zero at (byte ∷ bytes) =
    part_at port number at (byte ∷ bytes) (size_read order (byte ∷ bytes)) (λ skip. records_from port order (number + 1) skip (at + 1) bytes)

-- the records behind the header, or its fault
abbrev pub headed : ℕ → ℕ → ℕ → List ℕ → Result (Option Order) PcapReason → File
headed port number at bytes (Ok None) = record { items = []; fault = Some (at, truncated) }
headed port number at bytes (Ok (Some order)) = records_from port order number 0 (at + header_size) (drop header_size bytes)
headed port number at bytes (Err reason) = record { items = []; fault = Some (at, bad reason) }

-- the file that bytes are, for a port
abbrev pub file_of : ℕ → List ℕ → File
file_of port bytes = headed port 0 0 bytes (header_read bytes)
