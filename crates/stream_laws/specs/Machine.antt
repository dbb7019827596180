-- The machine of one stream: its producer, both ends, and what is under way between them.
use Rattle.std.specs.Prelude.{ℕ, ◌+◌, ◌%◌, ◌^◌, Bool, false, List, [], length}
use Rattle.std.specs.List.{sum_by}
use Rattle.chdr_words.specs.declared.command.CmdOp.{CmdOp}
use Rattle.stream_endpoint.specs.declared.count.Count.{Count}
use Rattle.stream_endpoint.specs.declared.flow.Flow.{Flow}
use Rattle.stream_endpoint.specs.declared.flow.Policy.{Policy}
use Rattle.stream_endpoint.specs.Counts.{none}
pub use Rattle.stream_endpoint.specs.Epochs.{Cut, Told, told_by}
use Rattle.stream_endpoint.specs.Receiver.{Receiver, listening}
use Rattle.stream_endpoint.specs.Sender.{Sender, opening}

-- what a stream was made for; its counts begin at the start
pub record Terms : Type 0 where
  pub flow : Flow
  pub policy : Policy
  pub start : Count

-- a packet, as far as a stream looks at it: its wire size, and all the rest
pub record Load (A : Type 0) : Type 0 where
  pub wire : ℕ
  pub item : A

-- the number of packets, and the sum of their wire sizes
abbrev pub count_of : {A : Type 0} → List (Load A) → Count
count_of loads = record { packets = length loads; bytes = sum_by (λ load. load.wire) loads }

-- under way from the producer: a packet with its place in what was sent, or a command with its whole
-- counts
pub data Entry (A : Type 0) : Type 0 where
  Data : ℕ → Load A → Entry A
  Command : CmdOp → Count → Entry A

-- a stream without what is under way: what a network keeps of it beside its queues
pub record Core (A : Type 0) : Type 0 where
  -- what the producer has made and not sent
  pub ready : List (Load A)
  -- the producer makes no more
  pub closed : Bool
  pub sent : List (Load A)
  pub sender : Sender
  pub receiver : Receiver
  -- all that the receiver kept, and how many of these the consumer has taken
  pub given : List (Load A)
  pub taken : ℕ
  -- the epochs that have ended, the latest first
  pub cuts : List Cut
  -- the places of the packets that were lost, and how many packets, commands and statuses were lost
  pub lost : List ℕ
  pub losses : ℕ

-- The last two are history beyond what the machine needs to go on: the laws need them, and nothing that
-- happens looks at them.
pub record State (A : Type 0) : Type 0 where
  pub core : Core A
  -- what is under way to the consumer, the next to arrive first
  pub forward : List (Entry A)
  -- the statuses under way to the producer, the next to arrive first
  pub back : List Told
  -- one past the place of the packet that arrived last
  pub next : ℕ
  -- what was lost or discarded in this epoch
  pub missing : Count

abbrev pub opens_core : {A : Type 0} → Terms → Core A
opens_core terms = record {
  ready = [];
  closed = false;
  sent = [];
  sender = opening terms.start;
  receiver = listening terms.flow terms.start;
  given = [];
  taken = 0;
  cuts = [];
  lost = [];
  losses = 0;
}

abbrev pub opens : {A : Type 0} → Terms → State A
opens terms = record { core = opens_core terms; forward = []; back = []; next = 0; missing = none }

-- the number of the packet at a place of what was sent
abbrev pub number_at : Terms → ℕ → ℕ
number_at terms place = (terms.start.packets + place) % 2 ^ 16
