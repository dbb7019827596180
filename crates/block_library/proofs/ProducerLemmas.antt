-- Packet k of a Tx stands at place k of what it produces.
use Rattle.std.proofs.Common.{◌≡◌, ◌<◌, ℕ, length, get_or, arith}
use Rattle.std.proofs.lemmas.List.FromFn.{length-map-range_with_len, get_or-map-range_with_len}
use Rattle.chdr_packets.specs.declared.packet.Packet.{Packet}
use Rattle.block_library.specs.declared.plan.TxPlan.{TxPlan}
use Rattle.block_library.specs.Producer.{packet_of, produced, ProducedIsByPlace}

pub length-produced : (plan : TxPlan) → length (produced plan) ≡ plan.packets
unfolding produced
length-produced plan = length-map-range_with_len (packet_of plan) 0 plan.packets

pub get_or-produced : (plan : TxPlan) (k : ℕ) (d : Packet) → k < plan.packets →
    get_or (produced plan) k d ≡ packet_of plan k
unfolding produced
get_or-produced plan k d h = get_or-map-range_with_len (packet_of plan) 0 plan.packets k k d h (omega arith)

pub produced_is_by_place : ProducedIsByPlace
produced_is_by_place = (length-produced, get_or-produced)
