-- What a Tx block gives.
use Rattle.std.specs.Prelude.{◌≡◌, ◌<◌, length, slice_index_or, ◌==◌, ◌+◌, ◌*◌, ◌%◌, ◌^◌, ◌≤◌, ◌⊎◌, ℕ, List, [], false, map, Option, option_map}
use Rattle.std.specs.List.{range_with_len}
use Rattle.chdr_packets.specs.declared.packet.Packet.{Packet}
use Rattle.chdr_packets.specs.declared.packet.Body.TheVariants.{Samples}
use Rattle.block_library.specs.Samples.{samples_from}
use Rattle.block_library.specs.declared.plan.TxPlan.{TxPlan}

-- the numbers of a plan are in the ranges of a script
pub record FitsPlan (plan : TxPlan) : Type 0 where
  pub packets : plan.packets ≤ 16384
  pub spp_low : 1 ≤ plan.spp
  pub spp_high : plan.spp ≤ 1022
  pub item : (plan.item ≡ 4) ⊎ (plan.item ≡ 8)

-- the time of packet k: each sample is one tick, modulo 2^64
abbrev pub time_of : TxPlan → ℕ → Option ℕ
time_of plan k = option_map (λ first. (first + k * plan.spp) % 2 ^ 64) plan.time

-- packet k has the samples from number k * spp on, and EOB where it is the last
unfoldable pub packet_of : TxPlan → ℕ → Packet
packet_of plan k = record {
  vc = 0;
  eob = k + 1 == plan.packets;
  eov = false;
  seq = 0;
  dst = plan.dst;
  mdata = [];
  body = Samples (time_of plan k) (samples_from plan.item (k * plan.spp) plan.spp);
}

-- the packets of a plan, in order
unfoldable pub produced : TxPlan → List Packet
produced plan = map (packet_of plan) (range_with_len 0 plan.packets)

-- a plan gives as many packets as it says, and packet k is the one of number k
abbrev pub ProducedIsByPlace : Type 0
ProducedIsByPlace = ((plan : TxPlan) → length (produced plan) ≡ plan.packets)
    × ((plan : TxPlan) (k : ℕ) (d : Packet) → k < plan.packets → slice_index_or (produced plan) k d ≡ packet_of plan k)
