-- What a flow allows.
use Rattle.std.specs.Prelude.{ℕ, ◌+◌, ◌^◌, ◌<◌, ◌≤◌, Bool, ◌&&◌, nat_le}
use Rattle.stream_endpoint.specs.declared.count.Count.{Count}
use Rattle.stream_endpoint.specs.declared.flow.Flow.{Flow}

-- a receiver reports before a sender of packets up to `max` can run out of credit for good
pub record IsValid (flow : Flow) : Type 0 where
  pub some_bytes : 1 ≤ flow.freq_bytes
  pub enough_bytes : flow.freq_bytes + flow.max ≤ flow.cap_bytes
  pub few_bytes : flow.cap_bytes < 2 ^ 40
  pub some_packets : 1 ≤ flow.freq_packets
  pub enough_packets : flow.freq_packets ≤ flow.cap_packets
  pub few_packets : flow.cap_packets ≤ 1024
  pub not_short : 16 ≤ flow.max
  pub not_long : flow.max ≤ 8192

-- beside what is held, one more packet of this wire size is within the capacity
abbrev pub HasRoom : Flow → Count → ℕ → Type 0
HasRoom flow held wire =
    (held.bytes + wire ≤ flow.cap_bytes) × (held.packets + 1 ≤ flow.cap_packets)

-- the test of it
abbrev pub has_room : Flow → Count → ℕ → Bool
has_room flow held wire =
    nat_le (held.bytes + wire) flow.cap_bytes && nat_le (held.packets + 1) flow.cap_packets

-- credit: with what is outstanding, one more packet of this wire size is within the capacity
abbrev pub HasCredit : Flow → Count → ℕ → Type 0
HasCredit flow outstanding wire = HasRoom flow outstanding wire

-- the frequency that an INIT tells
abbrev pub frequency : Flow → Count
frequency flow = record { packets = flow.freq_packets; bytes = flow.freq_bytes }
