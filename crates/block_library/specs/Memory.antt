-- What a block keeps of what was fed to it, and how it goes on from there.
use Rattle.std.specs.Prelude.{◌≡◌, ◌<◌, ◌⊎◌, ◌==◌, ◌+◌, ◌%◌, ◌-◌, ◌^◌, ◌++◌, ℕ, List, [], ◌∷◌, Option, if◌then◌else◌, length, min}
use Rattle.std.specs.List.{sum_by}
use Rattle.chdr_packets.specs.declared.packet.Packet.{Packet}
use Rattle.block_library.specs.declared.kind.BlockKind.{BlockKind}
use Rattle.block_library.specs.declared.kind.BlockKind.TheVariants.{Tx, Rx, Fifo, Split, Keep, Repeat, Replay, Switch, Sink}
use Rattle.block_library.specs.Blocks.{FitsKind, Lists, inputs, samples_in, payload_in, kept_samples, resampled, repeated_packet, passes_whole, is_left_out, closes, open_group, replayed_group, block_of, joined, alone}

-- the count of packets stands still at the end of its type
abbrev pub counted : ℕ → ℕ
counted n = min n (2 ^ 32 - 1)

-- the part of a block's history that decides how it goes on
pub record Kept : Type 0 where
  pub kind : BlockKind
  pub item : ℕ
  pub phase : ℕ
  pub group : List Packet
  pub fed : ℕ
  pub given : ℕ

abbrev pub kept : BlockKind → ℕ → ℕ → List Packet → ℕ → ℕ → Kept
kept kind item phase group fed given =
    record { kind = kind; item = item; phase = phase; group = group; fed = fed; given = given }

-- the number of the next sample, modulo n
abbrev pub phase_of : BlockKind → ℕ → List Packet → ℕ
phase_of Tx item ps = 0
phase_of Rx item ps = 0
phase_of Fifo item ps = 0
phase_of Split item ps = 0
phase_of (Keep n) item ps = sum_by (samples_in item) ps % n
phase_of (Repeat n) item ps = 0
phase_of (Replay n) item ps = 0
phase_of (Switch n) item ps = 0
phase_of Sink item ps = 0

abbrev pub group_of : BlockKind → List Packet → List Packet
group_of Tx ps = []
group_of Rx ps = []
group_of Fifo ps = []
group_of Split ps = []
group_of (Keep n) ps = []
group_of (Repeat n) ps = []
group_of (Replay n) ps = open_group [] ps
group_of (Switch n) ps = []
group_of Sink ps = []

abbrev pub total : Lists → ℕ
total lists = length lists.first + length lists.second

-- what is kept of a whole history
unfoldable pub kept_of : BlockKind → ℕ → Lists → Kept
kept_of kind item fed = record {
  kind = kind;
  item = item;
  phase = phase_of kind item fed.first;
  group = group_of kind fed.first;
  fed = counted (total fed);
  given = counted (total (block_of kind item fed));
}

-- what a block keeps is in its ranges
pub record FitsKept (kept : Kept) : Type 0 where
  pub kind : FitsKind kept.kind
  pub item : (kept.item ≡ 4) ⊎ (kept.item ≡ 8)
  pub phase : kept.phase < 1024
  pub group : length kept.group < 64

abbrev pub lists : List Packet → List Packet → Lists
lists first second = record { first = first; second = second }

-- what a block gives when a packet is fed
abbrev pub gives_by : BlockKind → ℕ → ℕ → List Packet → ℕ → Packet → Lists
gives_by Tx item phase group port p = lists [] []
gives_by Rx item phase group port p = lists [] []
gives_by Fifo item phase group port p = lists (p ∷ []) []
gives_by Split item phase group port p = lists (p ∷ []) (p ∷ [])
gives_by (Keep n) item phase group port p =
    lists (resampled p (kept_samples n item phase (payload_in p.body) (samples_in item p))) []
gives_by (Repeat n) item phase group port p = lists (repeated_packet n item p) []
gives_by (Replay n) item phase group port p =
    lists (if closes group p then replayed_group n (group ++ p ∷ []) else []) []
gives_by (Switch n) item phase group port p = lists (if port == n then p ∷ [] else []) []
gives_by Sink item phase group port p = lists [] []

-- the packets that are moved when a packet is fed: they are the last on the first output
abbrev pub moved_by : BlockKind → ℕ → List Packet → ℕ → Packet → List Packet
moved_by Tx item group port p = []
moved_by Rx item group port p = []
moved_by Fifo item group port p = p ∷ []
moved_by Split item group port p = p ∷ []
moved_by (Keep n) item group port p = if passes_whole n item p then (if is_left_out p then [] else p ∷ []) else []
moved_by (Repeat n) item group port p = if passes_whole n item p then p ∷ [] else []
moved_by (Replay n) item group port p = if closes group p then group ++ p ∷ [] else []
moved_by (Switch n) item group port p = if port == n then p ∷ [] else []
moved_by Sink item group port p = []

-- how many there are at most, whichever the input is
abbrev pub room_by : BlockKind → ℕ → List Packet → Packet → ℕ
room_by Tx item group p = 0
room_by Rx item group p = 0
room_by Fifo item group p = 1
room_by Split item group p = 1
room_by (Keep n) item group p = if passes_whole n item p then (if is_left_out p then 0 else 1) else 0
room_by (Repeat n) item group p = if passes_whole n item p then 1 else 0
room_by (Replay n) item group p = if closes group p then length group + 1 else 0
room_by (Switch n) item group p = 1
room_by Sink item group p = 0

-- the packets before them, which are made beforehand
abbrev pub made_by : BlockKind → ℕ → ℕ → List Packet → Packet → Lists
made_by Tx item phase group p = lists [] []
made_by Rx item phase group p = lists [] []
made_by Fifo item phase group p = lists [] []
made_by Split item phase group p = lists [] (p ∷ [])
made_by (Keep n) item phase group p =
    lists (if passes_whole n item p then [] else resampled p (kept_samples n item phase (payload_in p.body) (samples_in item p))) []
made_by (Repeat n) item phase group p = lists (if passes_whole n item p then [] else repeated_packet n item p) []
made_by (Replay n) item phase group p =
    lists (if closes group p then replayed_group (n - 1) (group ++ p ∷ []) else []) []
made_by (Switch n) item phase group p = lists [] []
made_by Sink item phase group p = lists [] []

abbrev pub next_phase : BlockKind → ℕ → ℕ → Packet → ℕ
next_phase Tx item phase p = phase
next_phase Rx item phase p = phase
next_phase Fifo item phase p = phase
next_phase Split item phase p = phase
next_phase (Keep n) item phase p = (phase + samples_in item p) % n
next_phase (Repeat n) item phase p = phase
next_phase (Replay n) item phase p = phase
next_phase (Switch n) item phase p = phase
next_phase Sink item phase p = phase

abbrev pub next_group : BlockKind → List Packet → Packet → List Packet
next_group Tx group p = group
next_group Rx group p = group
next_group Fifo group p = group
next_group Split group p = group
next_group (Keep n) group p = group
next_group (Repeat n) group p = group
next_group (Replay n) group p = if closes group p then [] else group ++ p ∷ []
next_group (Switch n) group p = group
next_group Sink group p = group

unfoldable pub gives : Kept → ℕ → Packet → Lists
gives kept port p = gives_by kept.kind kept.item kept.phase kept.group port p

unfoldable pub moved : Kept → ℕ → Packet → List Packet
moved kept port p = moved_by kept.kind kept.item kept.group port p

-- what is made before a packet is fed, and the room behind the first packets for those that are moved
pub record Prepared : Type 0 where
  pub lists : Lists
  pub room : ℕ

abbrev pub prepared_as : Lists → ℕ → Prepared
prepared_as made room = record { lists = made; room = room }

unfoldable pub made : Kept → Packet → Prepared
made kept p = prepared_as (made_by kept.kind kept.item kept.phase kept.group p) (room_by kept.kind kept.item kept.group p)

-- what is kept once a packet is fed
unfoldable pub after_feed : Kept → ℕ → Packet → Kept
after_feed kept port p = record kept {
  phase = next_phase kept.kind kept.item kept.phase p;
  group = next_group kept.kind kept.group p;
  fed = counted (kept.fed + 1);
  given = counted (kept.given + total (gives kept port p));
}

-- a block as contracts see it: what it keeps, and what is made for the next packet
pub record BlockView : Type 0 where
  pub kept : Kept
  pub prepared : Option Prepared

-- the block stands for this history
abbrev pub StandsFor : Kept → Lists → Type 0
StandsFor kept fed = kept ≡ kept_of kept.kind kept.item fed

-- what was given joins up, and the block stands for one packet more
pub record GoesOn (old new : Kept) (fed : Lists) (port : ℕ) (p : Packet) (given : Lists) : Type 0 where
  pub stands : StandsFor new (joined fed (alone port p))
  pub gives_all : joined (block_of old.kind old.item fed) given ≡ block_of old.kind old.item (joined fed (alone port p))

-- what a whole history with one packet more leaves, and what it gives
abbrev pub HistoryGoesOn : Type 0
HistoryGoesOn = (kind : BlockKind) (item : ℕ) (fed : Lists) (port : ℕ) (p : Packet) → FitsKind kind → port < inputs kind →
    (kept_of kind item (joined fed (alone port p)) ≡ after_feed (kept_of kind item fed) port p)
    × (block_of kind item (joined fed (alone port p)) ≡ joined (block_of kind item fed) (gives (kept_of kind item fed) port p))

-- the registers of a block
abbrev pub kind_code : BlockKind → ℕ
kind_code Tx = 0
kind_code Rx = 0
kind_code Fifo = 1
kind_code Split = 2
kind_code (Keep n) = 3
kind_code (Repeat n) = 4
kind_code (Replay n) = 5
kind_code (Switch n) = 6
kind_code Sink = 7

abbrev pub kind_number : BlockKind → ℕ
kind_number Tx = 0
kind_number Rx = 0
kind_number Fifo = 0
kind_number Split = 0
kind_number (Keep n) = n
kind_number (Repeat n) = n
kind_number (Replay n) = n
kind_number (Switch n) = n
kind_number Sink = 0

abbrev pub block_registers : Kept → List ℕ
block_registers kept = kind_code kept.kind ∷ kind_number kept.kind ∷ kept.fed ∷ kept.given ∷ []

-- what a new block keeps is in its ranges, and a packet more leaves it there
abbrev pub KeptStaysFit : Type 0
KeptStaysFit = ((kind : BlockKind) (item : ℕ) → FitsKind kind → (item ≡ 4) ⊎ (item ≡ 8) → FitsKept (kept_of kind item (lists [] [])))
    × ((kept : Kept) (port : ℕ) (p : Packet) → FitsKept kept → FitsKept (after_feed kept port p))
