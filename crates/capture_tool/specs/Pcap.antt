-- The listing of a pcap file: a line for each datagram of the port with its packets' lines, and the last line.
use Rattle.std.specs.Prelude.{◌≡◌, ℕ, ◌+◌, ◌*◌, ◌≤◌, ◌==◌, Bool, false, nat_lt, if◌then◌else◌, List, [], ◌∷◌, ◌++◌, length, take, codes, decimal, Option, None, Some, Result, Ok}
use Rattle.std.specs.List.{flat_map}
use Rattle.chdr_stream.specs.Capture.{capture_of}
use Rattle.pcap_input.specs.declared.item.PcapItem.{PcapItem}
use Rattle.pcap_input.specs.declared.item.PcapItem.TheVariants.{Datagram, Cut, Other}
use Rattle.pcap_input.specs.declared.item.PcapReason.{PcapReason}
use Rattle.pcap_input.specs.declared.item.PcapReason.TheVariants as reasons
use Rattle.pcap_input.specs.File.{Why, bad, truncated, behind, file_of}
use Rattle.pcap_input.specs.Reader.{Pcap, IsDrained}
use Rattle.pcap_input.specs.Rest.{rest_of}
use Rattle.capture_tool.specs.declared.pcap.PcapSeen.{PcapSeen}
use Rattle.capture_tool.specs.declared.pcap.Totals.{Totals}
use Rattle.capture_tool.specs.declared.seen.Fault.{Fault}
use Rattle.capture_tool.specs.declared.seen.Why.TheVariants as whys
use Rattle.capture_tool.specs.declared.seen.Why.{Why as Reason}
use Rattle.capture_tool.specs.Listing.{lines_of}
use Rattle.capture_tool.specs.Names.{◌&◌}
use Rattle.capture_tool.specs.Seen.{fault_within, limit}
use Rattle.capture_tool.specs.Text.{fault_line}

-- ---- a datagram

-- the first fault of a payload
abbrev pub payload_fault : List ℕ → Option Fault
payload_fault payload = fault_within false (capture_of payload).fault

-- a fault has a line
abbrev pub fault_text : Option Fault → List ℕ
fault_text None = []
fault_text (Some fault) = fault_line fault

-- the lines of a payload's packets, and of its fault, with places within the payload
abbrev pub payload_text : List ℕ → List ℕ
payload_text payload = lines_of (capture_of payload).items ++ fault_text (payload_fault payload)

-- record K FROM>TO bytes N
abbrev pub record_line : ℕ → ℕ → ℕ → ℕ → List ℕ
record_line number from to bytes =
    (codes "record " & decimal number & codes " " & decimal from) & (codes ">" & decimal to & codes " bytes " & decimal bytes) & codes "\n"

-- what is listed of a record
abbrev pub item_text : PcapItem → List ℕ
item_text (Datagram number from to payload) = record_line number from to (length payload) ++ payload_text payload
item_text (Cut number) = []
item_text (Other number) = []

abbrev pub items_text : List PcapItem → List ℕ
items_text items = flat_map item_text items

-- ---- counts

abbrev pub faults_of : Option Fault → ℕ
faults_of None = 0
faults_of (Some fault) = 1

-- what a record counts for
abbrev pub item_totals : PcapItem → Totals
item_totals (Datagram number from to payload) =
    record { records = 1; datagrams = 1; cut = 0; packets = length (capture_of payload).items; faults = faults_of (payload_fault payload) }
item_totals (Cut number) = record { records = 1; datagrams = 0; cut = 1; packets = 0; faults = 0 }
item_totals (Other number) = record { records = 1; datagrams = 0; cut = 0; packets = 0; faults = 0 }

-- two counts together
abbrev pub summed : Totals → Totals → Totals
summed a b = record {
  records = a.records + b.records;
  datagrams = a.datagrams + b.datagrams;
  cut = a.cut + b.cut;
  packets = a.packets + b.packets;
  faults = a.faults + b.faults;
}

abbrev pub no_totals : Totals
no_totals = record { records = 0; datagrams = 0; cut = 0; packets = 0; faults = 0 }

-- the counts of records behind others
abbrev pub totals_from : Totals → List PcapItem → Totals
totals_from totals [] = totals
totals_from totals (item ∷ items) = totals_from (summed totals (item_totals item)) items

-- ---- the file

abbrev pub pcap_why : PcapReason → Reason
pcap_why reasons.BadMagic = whys.BadMagic
pcap_why reasons.BadVersion = whys.BadVersion
pcap_why reasons.BadLink = whys.BadLink
pcap_why reasons.BadRecord = whys.BadRecord

-- a file that goes on past the limit is too long, unless a test failed before it
abbrev pub pcap_fault_within : Bool → Option (ℕ × Why) → Option Fault
pcap_fault_within long None = if long then Some (record { at = limit; why = whys.TooLong }) else None
pcap_fault_within long (Some (at, bad reason)) = Some (record { at = at; why = pcap_why reason })
pcap_fault_within long (Some (at, truncated)) =
    if long then Some (record { at = limit; why = whys.TooLong }) else Some (record { at = at; why = whys.Truncated })

-- the records within the limit, and the fault
abbrev pub records_of : ℕ → List ℕ → List PcapItem
records_of port bytes = (file_of port (take limit bytes)).items

abbrev pub pcap_fault_of : ℕ → List ℕ → Option Fault
pcap_fault_of port bytes = pcap_fault_within (nat_lt limit (length bytes)) (file_of port (take limit bytes)).fault

-- what is seen of a file
abbrev pub pcap_seen_of : ℕ → List ℕ → PcapSeen
pcap_seen_of port bytes = record { totals = totals_from no_totals (records_of port bytes); fault = pcap_fault_of port bytes }

-- records R datagrams D cut C packets N faults F
abbrev pub totals_line : Totals → List ℕ
totals_line t =
    (codes "records " & decimal t.records & codes " datagrams " & decimal t.datagrams)
    & (codes " cut " & decimal t.cut & codes " packets " & decimal t.packets)
    & (codes " faults " & decimal t.faults & codes "\n")

-- the last line
abbrev pub seen_line : PcapSeen → List ℕ
seen_line seen = line_by seen.totals seen.fault
  where
    line_by : Totals → Option Fault → List ℕ
    line_by totals None = totals_line totals
    line_by totals (Some fault) = fault_line fault

-- what is written of a file
abbrev pub pcap_listed : ℕ → List ℕ → List ℕ
pcap_listed port bytes = items_text (records_of port bytes) ++ seen_line (pcap_seen_of port bytes)

-- 7 with a fault of the file or of a datagram, and 0 without
abbrev pub pcap_status : PcapSeen → ℕ
pcap_status seen = status_by seen.totals.faults seen.fault
  where
    status_by : ℕ → Option Fault → ℕ
    status_by faults None = if faults == 0 then 0 else 7
    status_by faults (Some fault) = 7
