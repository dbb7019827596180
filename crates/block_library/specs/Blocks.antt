-- What each kind of block gives for the packets that were fed to it; docs/blocks.md has the table.
use Rattle.std.specs.Prelude.{◌≡◌, ◌==◌, ◌+◌, ◌*◌, ◌/◌, ◌%◌, ◌&&◌, ◌||◌, ◌++◌, ◌≤◌, ℕ, Bool, false, not, List, [], ◌∷◌, Option, None, if◌then◌else◌, length, map, take, drop}
use Rattle.std.specs.List.{flat_map, range_with_len}
use Rattle.chdr_packets.specs.declared.packet.Packet.{Packet}
use Rattle.chdr_packets.specs.declared.packet.Body.{Body}
use Rattle.chdr_packets.specs.declared.packet.Body.TheVariants.{Samples, Status, Command, Control, Management}
use Rattle.block_library.specs.declared.kind.BlockKind.{BlockKind}
use Rattle.block_library.specs.declared.kind.BlockKind.TheVariants.{Tx, Rx, Fifo, Split, Keep, Repeat, Replay, Switch, Sink}

-- the number of a kind is in its range
abbrev pub FitsKind : BlockKind → Type 0
FitsKind Tx = Unit {0}
FitsKind Rx = Unit {0}
FitsKind Fifo = Unit {0}
FitsKind Split = Unit {0}
FitsKind (Keep n) = (1 ≤ n) × (n ≤ 1024)
FitsKind (Repeat n) = (1 ≤ n) × (n ≤ 16)
FitsKind (Replay n) = (1 ≤ n) × (n ≤ 16)
FitsKind (Switch n) = n ≤ 1
FitsKind Sink = Unit {0}

-- how many inputs a kind has
abbrev pub inputs : BlockKind → ℕ
inputs Tx = 0
inputs Rx = 1
inputs Fifo = 1
inputs Split = 1
inputs (Keep n) = 1
inputs (Repeat n) = 1
inputs (Replay n) = 1
inputs (Switch n) = 2
inputs Sink = 1

-- how many outputs a kind has
abbrev pub outputs : BlockKind → ℕ
outputs Tx = 1
outputs Rx = 0
outputs Fifo = 1
outputs Split = 2
outputs (Keep n) = 1
outputs (Repeat n) = 1
outputs (Replay n) = 1
outputs (Switch n) = 1
outputs Sink = 0

abbrev pub payload_in : Body → List ℕ
payload_in (Samples time payload) = payload
payload_in (Status status) = []
payload_in (Command command) = []
payload_in (Control control) = []
payload_in (Management management) = []

abbrev pub time_in : Body → Option ℕ
time_in (Samples time payload) = time
time_in (Status status) = None
time_in (Command command) = None
time_in (Control control) = None
time_in (Management management) = None

-- the body holds whole samples
abbrev pub HoldsSamples : ℕ → Body → Type 0
HoldsSamples item (Samples time payload) = length payload % item ≡ 0
HoldsSamples item (Status status) = ⊥
HoldsSamples item (Command command) = ⊥
HoldsSamples item (Control control) = ⊥
HoldsSamples item (Management management) = ⊥

abbrev pub holds_samples : ℕ → Body → Bool
holds_samples item (Samples time payload) = length payload % item == 0
holds_samples item (Status status) = false
holds_samples item (Command command) = false
holds_samples item (Control control) = false
holds_samples item (Management management) = false

-- a packet that a block takes
pub record IsFeed (item : ℕ) (p : Packet) : Type 0 where
  pub vc : p.vc ≡ 0
  pub mdata : p.mdata ≡ []
  pub body : HoldsSamples item p.body

-- the samples of a packet, by their number in it
abbrev pub samples_in : ℕ → Packet → ℕ
samples_in item p = length (payload_in p.body) / item

abbrev pub sample_at : ℕ → List ℕ → ℕ → List ℕ
sample_at item payload i = take item (drop (item * i) payload)

-- of `count` samples, of which the first is number `first` of the stream, those with a number that n divides
abbrev pub kept_samples : ℕ → ℕ → ℕ → List ℕ → ℕ → List ℕ
kept_samples n item first payload count =
    flat_map (λ i. if (first + i) % n == 0 then sample_at item payload i else []) (range_with_len 0 count)

-- keep and repeat pass a packet of whole samples as it is if n is 1
abbrev pub passes_whole : ℕ → ℕ → Packet → Bool
passes_whole n item p = n == 1 && holds_samples item p.body

-- it has no samples and doesn't end a burst
abbrev pub is_left_out : Packet → Bool
is_left_out p = length (payload_in p.body) == 0 && not p.eob

-- a packet with other samples; one without samples is left out, but for the end of a burst
abbrev pub resampled : Packet → List ℕ → List Packet
resampled p payload =
    if length payload == 0 && not p.eob
    then []
    else record p { body = Samples (time_in p.body) payload } ∷ []

-- what keep gives for packets, of which the first sample is number `first` of the stream
unfoldable pub kept_packets : ℕ → ℕ → ℕ → List Packet → List Packet
kept_packets n item first [] = []
kept_packets n item first (p ∷ ps) =
    resampled p (kept_samples n item first (payload_in p.body) (samples_in item p))
    ++ kept_packets n item (first + samples_in item p) ps

-- of the samples of a packet, each n times, those with the numbers k * c to (k + 1) * c - 1, of c in the packet
abbrev pub repeated_samples : ℕ → ℕ → List ℕ → ℕ → ℕ → List ℕ
repeated_samples n item payload first count =
    flat_map (λ i. sample_at item payload (i / n)) (range_with_len first count)

-- packet k of a repeated one: the first has its time, the last its ends of burst and vector
abbrev pub repeated_part : ℕ → ℕ → Packet → ℕ → Packet
repeated_part n item p k = record p {
  eob = p.eob && (k + 1 == n);
  eov = p.eov && (k + 1 == n);
  body = Samples (if k == 0 then time_in p.body else None)
      (repeated_samples n item (payload_in p.body) (k * samples_in item p) (samples_in item p));
}

unfoldable pub repeated_packet : ℕ → ℕ → Packet → List Packet
repeated_packet n item p =
    if samples_in item p == 0 then p ∷ [] else map (repeated_part n item p) (range_with_len 0 n)

-- a group ends at the end of a burst or with its 64th packet
abbrev pub closes : List Packet → Packet → Bool
closes group p = p.eob || (length group + 1 == 64)

-- the whole groups of packets, of which the first ones go on with the group given
unfoldable pub groups : List Packet → List Packet → List (List Packet)
groups group [] = []
groups group (p ∷ ps) =
    if closes group p then (group ++ p ∷ []) ∷ groups [] ps else groups (group ++ p ∷ []) ps

-- the group that isn't whole
unfoldable pub open_group : List Packet → List Packet → List Packet
open_group group [] = group
open_group group (p ∷ ps) = if closes group p then open_group [] ps else open_group (group ++ p ∷ []) ps

-- a group n times
unfoldable pub replayed_group : ℕ → List Packet → List Packet
replayed_group n group = flat_map (λ _. group) (range_with_len 0 n)

-- packets for each of two inputs, or on each of two outputs
pub record Lists : Type 0 where
  pub first : List Packet
  pub second : List Packet

-- what a block gives on its outputs for what was fed to its inputs
unfoldable pub block_of : BlockKind → ℕ → Lists → Lists
block_of Tx item fed = record { first = []; second = [] }
block_of Rx item fed = record { first = []; second = [] }
block_of Fifo item fed = record { first = fed.first; second = [] }
block_of Split item fed = record { first = fed.first; second = fed.first }
block_of (Keep n) item fed = record { first = kept_packets n item 0 fed.first; second = [] }
block_of (Repeat n) item fed = record { first = flat_map (repeated_packet n item) fed.first; second = [] }
block_of (Replay n) item fed = record { first = flat_map (replayed_group n) (groups [] fed.first); second = [] }
block_of (Switch n) item fed = record { first = if n == 0 then fed.first else fed.second; second = [] }
block_of Sink item fed = record { first = []; second = [] }

-- both lists, one after another
abbrev pub joined : Lists → Lists → Lists
joined a b = record { first = a.first ++ b.first; second = a.second ++ b.second }

-- the second lists begin with the first
abbrev pub Extends : Lists → Lists → Type 0
Extends a b = (rest : Lists) × (joined a rest ≡ b)

-- one packet on an input
abbrev pub alone : ℕ → Packet → Lists
alone port p = if port == 0 then record { first = p ∷ []; second = [] } else record { first = []; second = p ∷ [] }
