-- What is ready on a stream, as contracts see it.
use Rattle.std.specs.Prelude.{ℕ, ◌+◌, ◌*◌, ◌≤◌, Bool, List, [], drop, Option, None, Some, option_map, slice_get}
use Rattle.std.specs.Option.{option_map_or}
use Rattle.block_library.specs.Producer.{FitsPlan, produced}
use Rattle.block_library.specs.declared.plan.TxPlan.{TxPlan}
use Rattle.chdr_packets.specs.Length.{length_of, wire_of}
use Rattle.chdr_packets.specs.declared.packet.Packet.{Packet}
use Rattle.chdr_words.specs.Wire.{time_bytes, wire_size_of}

-- what a producer has for its stream, how much of it was offered, and whether a Tx makes it
pub record SourceSeen : Type 0 where
  pub ready : List Packet
  pub offered : ℕ
  pub is_tx : Bool

-- how many offered packets wait at most
abbrev pub most_offered : ℕ
most_offered = 16

-- a packet's size can be spelled
abbrev pub IsShort : Packet → Type 0
IsShort p = length_of p ≤ 65535

-- what a Tx of this plan has at first, and any other block
abbrev pub ready_first : Option TxPlan → List Packet
ready_first tx = option_map_or produced tx []

-- the wire size of the first of these packets
abbrev pub first_wire : List Packet → Option ℕ
first_wire packets = option_map wire_of (slice_get packets 0)

-- the wire size of each packet that a Tx of this plan makes
abbrev pub wire_of_each : TxPlan → ℕ
wire_of_each plan = wire_size_of (8 + time_bytes plan.time + plan.spp * plan.item)

-- what of a Tx's list wasn't offered, once so much was
abbrev pub unmade : Option TxPlan → ℕ → List Packet
unmade None made = []
unmade (Some plan) made = drop made (produced plan)

-- only a Tx's packets are offered
abbrev pub offered_by : Option TxPlan → ℕ → ℕ
offered_by None count = 0
offered_by (Some plan) count = count

-- the plan of a Tx is in range, and no more was offered than it has
abbrev pub IsMaking : Option TxPlan → ℕ → Type 0
IsMaking None made = Unit {0}
IsMaking (Some plan) made = FitsPlan plan × (made ≤ plan.packets)
