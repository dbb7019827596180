-- The counts of a stream in each state of a network.
use Rattle.std.specs.Prelude.{◌≡◌, ℕ, ◌+◌, ◌<◌, ◌≤◌, length}
use Rattle.stream_endpoint.specs.declared.flow.Flow.{Flow}
use Rattle.net_machine.specs.Plans.{plan_at}
use Rattle.net_machine.specs.State.{State, Stream, stream_at}
use Rattle.net_lawful.specs.Lawful.{Lawful}

-- what is outstanding and what is buffered is within the capacity, and buffered is what was given and isn't taken
pub record IsWithin (flow : Flow) (st : Stream) : Type 0 where
  pub outstanding_packets : st.sender.outstanding.packets ≤ flow.cap_packets
  pub outstanding_bytes : st.sender.outstanding.bytes ≤ flow.cap_bytes
  pub peak_packets : st.peak.packets ≤ flow.cap_packets
  pub peak_bytes : st.peak.bytes ≤ flow.cap_bytes
  pub buffered_packets : st.receiver.buffered.packets ≤ flow.cap_packets
  pub buffered_bytes : st.receiver.buffered.bytes ≤ flow.cap_bytes
  pub held : st.receiver.buffered.packets + st.taken ≡ length st.given

-- So it is with each stream of a lawful network.
abbrev pub StreamsAreWithin : Type 0
StreamsAreWithin = (w : State) (s : ℕ) → s < length w.plan.streams → Lawful w → IsWithin (plan_at w.plan s).flow (stream_at w s)
