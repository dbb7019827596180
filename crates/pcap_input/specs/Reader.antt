-- A reader of a pcap file: what it knows, and what a call finds and leaves.
use Rattle.std.specs.Prelude.{◌≡◌, ℕ, ◌+◌, ◌==◌, ◌&&◌, is_some, if◌then◌else◌, List, [], ◌++◌, drop, length, Option, None, Some, Result, Ok, Err}
use Rattle.chdr_stream.specs.declared.placed.FinishFault.{FinishFault}
use Rattle.chdr_stream.specs.declared.placed.FinishFault.TheVariants.{Truncated}
use Rattle.pcap_input.specs.declared.header.Order.{Order}
use Rattle.pcap_input.specs.declared.item.PcapItem.{PcapItem}
use Rattle.pcap_input.specs.declared.item.PcapFault.{PcapFault}
use Rattle.pcap_input.specs.declared.item.PcapFault.TheVariants.{Bad, Memory}
use Rattle.pcap_input.specs.declared.item.PcapReason.{PcapReason}
use Rattle.pcap_input.specs.Header.{header_read, header_size}
use Rattle.pcap_input.specs.Record.{frame_at, record_size, size_read}
use Rattle.pcap_input.specs.Frame.{item_of}

-- the order is known once the header was read; `number` is that of the next record; `held` counts the bytes that take memory
pub record Pcap : Type 0 where
  pub port : ℕ
  pub order : Option Order
  pub number : ℕ
  pub at : ℕ
  pub kept : List ℕ
  pub fault : Option PcapReason
  pub held : ℕ

-- a new reader
abbrev pub opened : ℕ → Pcap
opened port = record { port = port; order = None; number = 0; at = 0; kept = []; fault = None; held = 0 }

-- more bytes are kept; behind a fault none
abbrev pub fed_with : Pcap → List ℕ → Pcap
fed_with s piece = record s { kept = kept_with s.fault s.kept piece; held = held_with s.fault s.held piece }
  where
    kept_with : Option PcapReason → List ℕ → List ℕ → List ℕ
    kept_with None kept piece = kept ++ piece
    kept_with (Some reason) kept piece = kept

    held_with : Option PcapReason → ℕ → List ℕ → ℕ
    held_with None held piece = held + length piece
    held_with (Some reason) held piece = held

-- what reading the header leaves
abbrev pub with_header : Pcap → Result (Option Order) PcapReason → Pcap
with_header s (Ok None) = s
with_header s (Ok (Some order)) = record s { order = Some order; at = s.at + header_size; kept = drop header_size s.kept }
with_header s (Err reason) = s

-- the header was read, if it is there and no fault stands
abbrev pub begun : Pcap → Pcap
begun s = begun_by s s.fault s.order
  where
    begun_by : Pcap → Option PcapReason → Option Order → Pcap
    begun_by s (Some reason) order = s
    begun_by s None None = with_header s (header_read s.kept)
    begun_by s None (Some order) = s

-- a header that isn't read is not whole, or bad
abbrev pub no_size : Result (Option Order) PcapReason → Result (Option ℕ) PcapReason
no_size (Ok found) = Ok None
no_size (Err reason) = Err reason

-- the stored length of the record at the front, unless the header is missing or a fault stands
abbrev pub front : Pcap → Result (Option ℕ) PcapReason
front s = front_past s.fault s.order s.kept
  where
    front_past : Option PcapReason → Option Order → List ℕ → Result (Option ℕ) PcapReason
    front_past (Some reason) order kept = Err reason
    front_past None None kept = no_size (header_read kept)
    front_past None (Some order) kept = size_read order kept

-- the answer for what is found
abbrev pub answer_at : Pcap → Result (Option ℕ) PcapReason → Result (Option PcapItem) PcapFault
answer_at s (Ok None) = Ok None
answer_at s (Ok (Some size)) = Ok (Some (item_of s.port s.number (frame_at s.kept size)))
answer_at s (Err reason) = Err (Bad s.at reason)

-- past a record
abbrev pub past : Pcap → ℕ → Pcap
past s size = record s { number = s.number + 1; at = s.at + (record_size + size); kept = drop (record_size + size) s.kept }

-- bytes that were passed are let go
abbrev pub released : Pcap → Pcap
released s = record s { held = length s.kept }

-- the state behind what is found; a fault stands for good
abbrev pub after : Pcap → Result (Option ℕ) PcapReason → Pcap
after s (Ok None) = released s
after s (Ok (Some size)) = past s size
after s (Err reason) = record s { fault = Some reason }

-- what reading the header finds, and the state behind it: its order, nothing yet, or a fault
abbrev pub Begins : Result (Option Order) PcapReason → Pcap → Type 0
Begins (Ok None) s = front s ≡ Ok None
Begins (Ok (Some order)) s = s.order ≡ Some order
Begins (Err reason) s = front s ≡ Err reason

-- behind the header that is returned and left, unless memory runs out
abbrev pub Takes : Pcap → Pcap → Result (Option PcapItem) PcapFault → Type 0
Takes s new (Ok found) = (answer_at s (front s) ≡ Ok found) × (new ≡ after s (front s))
Takes s new (Err (Bad at reason)) = (answer_at s (front s) ≡ Err (Bad at reason)) × (new ≡ after s (front s))
Takes s new (Err Memory) = new ≡ s

-- what a call of `next` returns and leaves if memory suffices
abbrev pub answer_of : Pcap → Result (Option PcapItem) PcapFault
answer_of s = answer_at (begun s) (front (begun s))

abbrev pub next_of : Pcap → Pcap
next_of s = after (begun s) (front (begun s))

-- that is returned and left, unless memory runs out, when the record stays
abbrev pub Answers : Pcap → Pcap → Result (Option PcapItem) PcapFault → Type 0
Answers old new result = Takes (begun old) new result

-- all that is there was given: neither the header nor the next record is whole, and no fault stands
abbrev pub IsDrained : Pcap → Type 0
IsDrained s = drained_by s.fault s.order s.kept
  where
    drained_by : Option PcapReason → Option Order → List ℕ → Type 0
    drained_by (Some reason) order kept = ⊥
    drained_by None None kept = header_read kept ≡ Ok None
    drained_by None (Some order) kept = size_read order kept ≡ Ok None

-- the file ends here exactly if its header was read and no bytes are left
abbrev pub finish_at : Pcap → Result (Unit {0}) FinishFault
finish_at s = if is_some s.order && length s.kept == 0 then Ok tt else Err (Truncated s.at)
