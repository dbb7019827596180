-- What a reader of a pcap file tells of the bytes that follow those it was fed, of which it still takes `room`.
use Rattle.std.specs.Prelude.{◌≡◌, ℕ, ◌+◌, ◌*◌, ◌≤◌, ◌==◌, ◌&&◌, is_some, nat_lt, if◌then◌else◌, List, [], ◌++◌, length, take, Option, None, Some}
use Rattle.pcap_input.specs.declared.item.PcapItem.{PcapItem}
use Rattle.pcap_input.specs.declared.item.PcapReason.{PcapReason}
use Rattle.pcap_input.specs.File.{bad, behind}
use Rattle.pcap_input.specs.Reader.{Pcap, IsDrained}
use Rattle.pcap_input.specs.Rest.{rest_of}
use Rattle.capture_tool.specs.declared.pcap.PcapSeen.{PcapSeen}
use Rattle.capture_tool.specs.declared.pcap.Totals.{Totals}
use Rattle.capture_tool.specs.declared.seen.Fault.{Fault}
use Rattle.capture_tool.specs.declared.seen.Why.TheVariants as whys
use Rattle.capture_tool.specs.Seen.{limit}
use Rattle.capture_tool.specs.Pcap.{items_text, pcap_fault_within, pcap_why, seen_line, totals_from}

-- a file that is being listed: its reader, the counts so far, and how many bytes are still taken
pub record PcapListed : Type 0 where
  pub reader : Pcap
  pub totals : Totals
  pub room : ℕ

-- the bytes fed are within the limit, and the counts are of them
pub record IsCounted (reader : Pcap) (totals : Totals) (room : ℕ) : Type 0 where
  pub bytes : reader.at + length reader.kept + room ≤ limit
  pub each : 16 * totals.records ≤ reader.at
  pub packed : 8 * totals.packets ≤ reader.at
  pub some : totals.datagrams ≤ totals.records
  pub cuts : totals.cut ≤ totals.records
  pub faulty : totals.faults ≤ totals.records

-- what is seen in the end
abbrev pub pcap_seen_after : PcapListed → List ℕ → PcapSeen
pcap_seen_after s more = record {
  totals = totals_from s.totals (rest_of s.reader (take s.room more)).items;
  fault = pcap_fault_within (nat_lt s.room (length more)) (rest_of s.reader (take s.room more)).fault;
}

-- the rest of the listing
abbrev pub pcap_listed_after : PcapListed → List ℕ → List ℕ
pcap_listed_after s more = items_text (rest_of s.reader (take s.room more)).items ++ seen_line (pcap_seen_after s more)

-- a reader gave these items: whatever follows, it shows them first
abbrev pub PcapGave : Pcap → Pcap → List PcapItem → Type 0
PcapGave old new items = (more : List ℕ) → rest_of old more ≡ behind items (rest_of new more)

-- it gave some items, which were counted, and their text was put
pub record PcapLists (old new : Pcap) (totals counted : Totals) (page put : List ℕ) : Type 0 where
  pub items : List PcapItem
  pub gave : PcapGave old new items
  pub count : counted ≡ totals_from totals items
  pub wrote : put ≡ page ++ items_text items

-- it gives no more: no whole record is left, or this fault stands, whatever follows
abbrev pub IsPcapAt : Option Fault → Pcap → Type 0
IsPcapAt None s = IsDrained s
IsPcapAt (Some fault) s = (reason : PcapReason) × (pcap_why reason ≡ fault.why)
    × ((more : List ℕ) → rest_of s more ≡ record { items = []; fault = Some (fault.at, bad reason) })

-- the fault where nothing follows
abbrev pub pcap_last_fault : Option Fault → Pcap → Option Fault
pcap_last_fault None s = if is_some s.order && length s.kept == 0 then None else Some (record { at = s.at; why = whys.Truncated })
pcap_last_fault (Some fault) s = Some fault
