-- Lists of calls of a reader: the bytes that they feed, the items that they give, and what they leave.
use Rattle.std.specs.Prelude.{◌≡◌, ℕ, List, [], ◌∷◌, ◌++◌, Option, None, Some, Result, Ok, Err}
use Rattle.pcap_input.specs.declared.item.PcapItem.{PcapItem}
use Rattle.pcap_input.specs.declared.item.PcapFault.{PcapFault}
use Rattle.pcap_input.specs.File.{behind, file_of}
use Rattle.pcap_input.specs.Reader.{Pcap, answer_of, fed_with, next_of, opened}
use Rattle.pcap_input.specs.Rest.{given, rest_of}

-- bytes are fed, or the next record is asked for
pub data Call : Type 0 where
  feeds : List ℕ → Call
  asks : Call

-- what a call leaves
abbrev pub with_call : Pcap → Call → Pcap
with_call s (feeds piece) = fed_with s piece
with_call s asks = next_of s

-- the item that it gives
abbrev pub given_with : Pcap → Call → List PcapItem
given_with s (feeds piece) = []
given_with s asks = given (answer_of s)

-- the bytes that it feeds
abbrev pub fed_with_call : Call → List ℕ
fed_with_call (feeds piece) = piece
fed_with_call asks = []

-- what calls leave
abbrev pub with_calls : Pcap → List Call → Pcap
with_calls s [] = s
with_calls s (call ∷ calls) = with_calls (with_call s call) calls

-- the items that they give
abbrev pub given_from : Pcap → List Call → List PcapItem
given_from s [] = []
given_from s (call ∷ calls) = given_with s call ++ given_from (with_call s call) calls

-- the bytes that they feed
abbrev pub fed_by : List Call → List ℕ
fed_by [] = []
fed_by (call ∷ calls) = fed_with_call call ++ fed_by calls

-- the next call gives no item: none is whole, or a fault stands
abbrev pub GivesNone : Result (Option PcapItem) PcapFault → Type 0
GivesNone (Ok None) = Unit {0}
GivesNone (Ok (Some item)) = ⊥
GivesNone (Err fault) = Unit {0}

-- whatever the calls, the file of the bytes fed and those that follow is the items given and what the reader still shows
abbrev pub KeepsShown : Type 0
KeepsShown = (port : ℕ) (calls : List Call) (more : List ℕ)
    → file_of port (fed_by calls ++ more) ≡ behind (given_from (opened port) calls) (rest_of (with_calls (opened port) calls) more)

-- calls that feed the same bytes, until no item is given, give the same items and stand at the same fault
abbrev pub IsSameCut : Type 0
IsSameCut = (port : ℕ) (calls others : List Call) → fed_by calls ≡ fed_by others
    → GivesNone (answer_of (with_calls (opened port) calls)) → GivesNone (answer_of (with_calls (opened port) others))
    → (given_from (opened port) calls ≡ given_from (opened port) others)
    × ((rest_of (with_calls (opened port) calls) []).fault ≡ (rest_of (with_calls (opened port) others) []).fault)
