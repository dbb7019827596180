-- What a reader still shows of the bytes that follow: the records behind those given, and the first fault.
use Rattle.std.specs.Prelude.{◌≡◌, ℕ, ◌+◌, ◌≤◌, ◌==◌, ◌&&◌, is_some, if◌then◌else◌, List, [], ◌∷◌, ◌++◌, length, Option, None, Some, Result, Ok, Err}
use Rattle.pcap_input.specs.declared.header.Order.{Order}
use Rattle.pcap_input.specs.declared.item.PcapItem.{PcapItem}
use Rattle.pcap_input.specs.declared.item.PcapItem.TheVariants.{Datagram, Cut, Other}
use Rattle.pcap_input.specs.declared.item.PcapFault.{PcapFault}
use Rattle.pcap_input.specs.declared.item.PcapFault.TheVariants.{Bad, Memory}
use Rattle.pcap_input.specs.declared.item.PcapReason.{PcapReason}
use Rattle.pcap_input.specs.Header.{header_read}
use Rattle.pcap_input.specs.File.{File, IsPcapOf, bad, behind, file_of, headed, items_of, records_from, truncated}
use Rattle.pcap_input.specs.Reader.{IsDrained, Pcap, answer_of, fed_with, next_of, opened}

-- behind a fault nothing more is shown; else the header or the next record stands at the front
abbrev pub rest_past : Option PcapReason → Option Order → ℕ → ℕ → ℕ → List ℕ → File
rest_past (Some reason) order port number at bytes = record { items = []; fault = Some (at, bad reason) }
rest_past None None port number at bytes = headed port number at bytes (header_read bytes)
rest_past None (Some order) port number at bytes = records_from port order number 0 at bytes

-- what is shown of the bytes kept and of those that follow
unfoldable pub rest_of : Pcap → List ℕ → File
rest_of s more = rest_past s.fault s.order s.port s.number s.at (s.kept ++ more)

-- the item of an answer
abbrev pub given : Result (Option PcapItem) PcapFault → List PcapItem
given (Ok None) = []
given (Ok (Some item)) = item ∷ []
given (Err fault) = []

-- a new reader shows what its bytes are
abbrev pub ShowsAll : Type 0
ShowsAll = (port : ℕ) (bytes : List ℕ) → rest_of (opened port) bytes ≡ file_of port bytes

-- bytes that are fed are the first of those that follow
abbrev pub ShowsFed : Type 0
ShowsFed = (s : Pcap) (piece more : List ℕ) → rest_of (fed_with s piece) more ≡ rest_of s (piece ++ more)

-- what is given is shown first, whatever follows
abbrev pub ShowsGiven : Type 0
ShowsGiven = (s : Pcap) (more : List ℕ) → rest_of s more ≡ behind (given (answer_of s)) (rest_of (next_of s) more)

-- a fault that is returned is shown, whatever follows
abbrev pub ShowsFault : Type 0
ShowsFault = (s : Pcap) (more : List ℕ) (at : ℕ) (reason : PcapReason) → answer_of s ≡ Err (Bad at reason)
    → rest_of s more ≡ record { items = []; fault = Some (at, bad reason) }

-- where nothing follows, a header or record that isn't whole is cut off
abbrev pub ShowsCut : Type 0
ShowsCut = (s : Pcap) → IsDrained s
    → rest_of s [] ≡ record { items = []; fault = if is_some s.order && length s.kept == 0 then None else Some (s.at, truncated) }

-- once nothing is given, neither the header nor the next record is whole
abbrev pub DrainsAll : Type 0
DrainsAll = (s : Pcap) → answer_of s ≡ Ok None → IsDrained (next_of s)

-- the payload of an item
abbrev pub payload_in : PcapItem → List ℕ
payload_in (Datagram number from to payload) = payload
payload_in (Cut number) = []
payload_in (Other number) = []

-- a record takes sixteen bytes and those of its frame, its datagram's payload among them
abbrev pub PassesBytes : Type 0
PassesBytes = (s : Pcap) (item : PcapItem) → answer_of s ≡ Ok (Some item) → s.at + 16 + length (payload_in item) ≤ (next_of s).at

-- a file of frames shows what each frame is, and no fault
abbrev pub ShowsFiles : Type 0
ShowsFiles = (port : ℕ) (order : Order) (frames : List (List ℕ)) (bytes : List ℕ) → IsPcapOf order frames bytes
    → file_of port bytes ≡ record { items = items_of port 0 frames; fault = None }
