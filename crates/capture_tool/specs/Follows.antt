-- What a reader of a capture tells of the bytes that follow those it was fed, of which it still takes `room`.
use Rattle.std.specs.Prelude.{◌≡◌, ℕ, ◌+◌, ◌*◌, ◌≤◌, ◌==◌, nat_lt, Bool, if◌then◌else◌, List, [], ◌++◌, length, take, Option, None, Some, Result, Ok, Err}
use Rattle.chdr_packets.specs.declared.fault.PacketFault.{PacketFault}
use Rattle.chdr_stream.specs.declared.placed.Placed.{Placed}
use Rattle.chdr_stream.specs.Capture.{behind, reason_of}
use Rattle.chdr_stream.specs.Stream.{Stream, reading}
use Rattle.chdr_stream.specs.Rest.{rest_of}
use Rattle.capture_tool.specs.declared.seen.Counts.{Counts}
use Rattle.capture_tool.specs.declared.seen.Seen.{Seen}
use Rattle.capture_tool.specs.declared.seen.Fault.{Fault}
use Rattle.capture_tool.specs.declared.seen.Why.TheVariants.{Truncated, TooLong}
use Rattle.capture_tool.specs.Seen.{limit, why_of, fault_within, counts_of}
use Rattle.capture_tool.specs.Listing.{lines_of, last_line}

-- a capture that is being listed: its decoder, the packets listed, and how many bytes are still taken
pub record Listed : Type 0 where
  pub decoder : Stream
  pub packets : ℕ
  pub room : ℕ

-- a capture that is being counted
pub record Checked : Type 0 where
  pub decoder : Stream
  pub counts : Counts
  pub room : ℕ

-- the packets and the bytes fed are within the limit
pub record IsWithin (d : Stream) (packets room : ℕ) : Type 0 where
  pub bytes : d.at + length d.kept + room ≤ limit
  pub each : 8 * packets ≤ d.at

-- the packets shown of what follows
abbrev pub items_after : Stream → ℕ → List ℕ → List Placed
items_after d room more = (rest_of d (take room more)).items

-- its fault
abbrev pub fault_after : Stream → ℕ → List ℕ → Option Fault
fault_after d room more = fault_within (nat_lt room (length more)) (rest_of d (take room more)).fault

-- the rest of the listing
abbrev pub listed_after : Listed → List ℕ → List ℕ
listed_after s more = lines_of (items_after s.decoder s.room more)
    ++ last_line (s.packets + length (items_after s.decoder s.room more)) (fault_after s.decoder s.room more)

-- two counts together
abbrev pub added : Counts → Counts → Counts
added a b = record { packets = a.packets + b.packets; canonical = a.canonical + b.canonical }

-- what is seen in the end
abbrev pub seen_after : Checked → List ℕ → Seen
seen_after s more = record { counts = added s.counts (counts_of (items_after s.decoder s.room more)); fault = fault_after s.decoder s.room more }

-- a decoder gave these packets: whatever follows, it shows them first
abbrev pub Gave : Stream → Stream → List Placed → Type 0
Gave old new items = (more : List ℕ) → rest_of old more ≡ behind items (rest_of new more)

-- it gave some packets, which were counted, and their lines were put
pub record Lists (old new : Stream) (packets counted : ℕ) (page put : List ℕ) : Type 0 where
  pub items : List Placed
  pub gave : Gave old new items
  pub count : counted ≡ packets + length items
  pub wrote : put ≡ page ++ lines_of items

-- it gave some packets, which were counted
pub record CountsOn (old new : Stream) (counts counted : Counts) : Type 0 where
  pub items : List Placed
  pub gave : Gave old new items
  pub count : counted ≡ added counts (counts_of items)

-- it gives no more: no whole packet is left, or this fault stands, whatever follows
abbrev pub IsAt : Option Fault → Stream → Type 0
IsAt None d = reading d ≡ Ok None
IsAt (Some fault) d = (reason : PacketFault) × (why_of (reason_of reason) ≡ fault.why)
    × ((more : List ℕ) → rest_of d more ≡ record { items = []; fault = Some (fault.at, reason_of reason) })

-- one packet more
abbrev pub one_more : Counts → Bool → Counts
one_more counts canonical = record { packets = counts.packets + 1; canonical = counts.canonical + (if canonical then 1 else 0) }

-- the fault where nothing follows: bytes that are left are a packet that isn't whole
abbrev pub last_fault : Option Fault → Stream → Option Fault
last_fault None d = if length d.kept == 0 then None else Some (record { at = d.at; why = Truncated })
last_fault (Some fault) d = Some fault

-- the fault where the capture goes on past the limit
abbrev pub long_fault : Option Fault → Fault
long_fault None = record { at = limit; why = TooLong }
long_fault (Some fault) = fault
