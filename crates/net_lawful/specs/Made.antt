-- What producers have made of what was fed to them, and the most that streams had outstanding.
use Rattle.std.specs.Prelude.{◌≡◌, ℕ, ◌<◌, ◌≤◌, ◌++◌, length}
use Rattle.stream_endpoint.specs.declared.flow.Flow.{Flow}
use Rattle.net_machine.specs.Plain.{numbered_from}
use Rattle.net_machine.specs.Plans.{plan_at}
use Rattle.net_machine.specs.Promises.{made_on}
use Rattle.net_machine.specs.State.{State, Stream, stream_at}

-- what stream s has sent, and will send of what is ready, is what its producer made so far
abbrev pub HasMade : State → ℕ → Type 0
HasMade w s = let st = stream_at w s in
    st.sent ++ numbered_from (plan_at w.plan s) (length st.sent) st.ready ≡ made_on w s

-- so it is with each stream
abbrev pub HaveMade : State → Type 0
HaveMade w = (s : ℕ) → s < length w.streams → HasMade w s

-- the most that was outstanding is within the capacity
pub record IsPeakWithin (flow : Flow) (st : Stream) : Type 0 where
  pub packets : st.peak.packets ≤ flow.cap_packets
  pub bytes : st.peak.bytes ≤ flow.cap_bytes

-- so it is with each stream
abbrev pub ArePeaksWithin : State → Type 0
ArePeaksWithin w = (s : ℕ) → s < length w.streams → IsPeakWithin (plan_at w.plan s).flow (stream_at w s)
