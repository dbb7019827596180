-- What is fed bounds what is given: in form, in size, in times and in number.
use Rattle.std.specs.Prelude.{◌≡◌, ◌==◌, ◌+◌, ◌*◌, ◌≤◌, ◌<◌, ℕ, Bool, IsTrue, IsSome, is_some, if◌then◌else◌, length, All}
use Rattle.chdr_words.specs.Wire.{wire_size_of}
use Rattle.chdr_packets.specs.declared.packet.Packet.{Packet}
use Rattle.chdr_packets.specs.Fits.{FitsPacket}
use Rattle.chdr_packets.specs.Length.{wire_of}
use Rattle.block_library.specs.declared.kind.BlockKind.{BlockKind}
use Rattle.block_library.specs.declared.kind.BlockKind.TheVariants.{Tx, Rx, Fifo, Split, Keep, Repeat, Replay, Switch, Sink}
use Rattle.block_library.specs.declared.plan.TxPlan.{TxPlan}
use Rattle.block_library.specs.Blocks.{FitsKind, IsFeed, Lists, payload_in, time_in, block_of}
use Rattle.block_library.specs.Memory.{Kept, gives, after_feed}
use Rattle.block_library.specs.Producer.{FitsPlan, produced}

-- a packet fit to be fed, with at most `most` bytes of samples, and with a time only if packets are `timed`
pub record IsWithin (item most : ℕ) (timed : Bool) (p : Packet) : Type 0 where
  pub feed : IsFeed item p
  pub size : length (payload_in p.body) ≤ most
  pub time : IsSome (time_in p.body) → IsTrue timed

-- what a block gives for a packet, and the group that it keeps, are within a bound
pub record GivesWithin (most : ℕ) (timed : Bool) (kept : Kept) (port : ℕ) (p : Packet) : Type 0 where
  pub first : All (IsWithin kept.item most timed) (gives kept port p).first
  pub second : All (IsWithin kept.item most timed) (gives kept port p).second
  pub group : All (IsWithin kept.item most timed) (after_feed kept port p).group

-- a bound on the packet fed and on the group kept holds of what is given and of the group kept then
abbrev pub FedBoundsGiven : Type 0
FedBoundsGiven = (most : ℕ) (timed : Bool) (kept : Kept) (port : ℕ) (p : Packet) → FitsKind kept.kind → 0 < kept.item →
    All (IsWithin kept.item most timed) kept.group → IsWithin kept.item most timed p → GivesWithin most timed kept port p

-- a bound on all packets fed holds of all packets given
abbrev pub AllFedBoundGiven : Type 0
AllFedBoundGiven = (most : ℕ) (timed : Bool) (kind : BlockKind) (item : ℕ) (fed : Lists) → FitsKind kind → 0 < item →
    All (IsWithin item most timed) fed.first → All (IsWithin item most timed) fed.second →
    All (IsWithin item most timed) (block_of kind item fed).first × All (IsWithin item most timed) (block_of kind item fed).second

-- how many packets a kind gives on one output at most, for each packet fed
abbrev pub factor : BlockKind → ℕ
factor Tx = 0
factor Rx = 0
factor Fifo = 1
factor Split = 1
factor (Keep n) = 1
factor (Repeat n) = n
factor (Replay n) = n
factor (Switch n) = 1
factor Sink = 0

-- how many packets a kind gives on one output at most, for all that was fed
abbrev pub most_given : BlockKind → Lists → ℕ
most_given Tx fed = 0
most_given Rx fed = 0
most_given Fifo fed = length fed.first
most_given Split fed = length fed.first
most_given (Keep n) fed = length fed.first
most_given (Repeat n) fed = length fed.first * n
most_given (Replay n) fed = length fed.first * n
most_given (Switch n) fed = if n == 0 then length fed.first else length fed.second
most_given Sink fed = 0

-- for one packet at most `factor` packets are given for each packet of the group and for itself
abbrev pub FewAreGiven : Type 0
FewAreGiven = (kept : Kept) (port : ℕ) (p : Packet) → FitsKind kept.kind →
    (length (gives kept port p).first ≤ factor kept.kind * (length kept.group + 1))
    × (length (gives kept port p).second ≤ factor kept.kind * (length kept.group + 1))

-- for all packets fed at most `most_given` packets are given
abbrev pub FewAreGivenInAll : Type 0
FewAreGivenInAll = (kind : BlockKind) (item : ℕ) (fed : Lists) → FitsKind kind →
    (length (block_of kind item fed).first ≤ most_given kind fed) × (length (block_of kind item fed).second ≤ most_given kind fed)

-- the most bytes on a link of a packet within a bound
abbrev pub wire_within : ℕ → Bool → ℕ
wire_within most timed = wire_size_of (8 + (if timed then 8 else 0) + most)

-- a packet within a bound takes no more bytes on a link, and fits its form if the bound does
abbrev pub WithinIsSmall : Type 0
WithinIsSmall = (item most : ℕ) (timed : Bool) (p : Packet) → IsWithin item most timed p →
    (wire_of p ≤ wire_within most timed) × (most ≤ 65519 → FitsPacket p)

-- the number of a packet and where it goes are no part of a bound
abbrev pub WithinIsOfAll : Type 0
WithinIsOfAll = (item most : ℕ) (timed : Bool) (p q : Packet) → q.vc ≡ p.vc → q.mdata ≡ p.mdata → q.body ≡ p.body →
    IsWithin item most timed p → IsWithin item most timed q

-- the packets of a plan are within its samples and its time
abbrev pub PlansAreWithin : Type 0
PlansAreWithin = (plan : TxPlan) → FitsPlan plan → All (IsWithin plan.item (plan.spp * plan.item) (is_some plan.time)) (produced plan)
