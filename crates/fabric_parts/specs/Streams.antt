-- A stream as contracts see it: its plan, whether a Tx makes its packets, and what is kept of it.
use Rattle.std.specs.Prelude.{ℕ, ◌+◌, ◌-◌, Bool, List, drop}
use Rattle.chdr_packets.specs.declared.packet.Packet.{Packet}
use Rattle.stream_endpoint.specs.Receiver.{listening}
use Rattle.stream_endpoint.specs.Sender.{opening}
use Rattle.net_machine.specs.Begin.{start_of}
use Rattle.net_machine.specs.State.{idle}
use Rattle.net_machine.specs.Tallies.{undrained}
use Rattle.net_machine.specs.declared.plan.StreamPlan.{StreamPlan}
use Rattle.net_machine.specs.declared.tally.StreamEnd.{StreamEnd}
use Rattle.net_machine.specs.declared.tally.Tally.{Tally}
use Rattle.net_present.specs.Kept.{stream_now}
use Rattle.net_present.specs.Present.{StreamNow}

pub record StreamSeen : Type 0 where
  pub plan : StreamPlan
  pub is_tx : Bool
  pub now : StreamNow

-- what is kept of the stream changes
abbrev pub on_stream : (StreamNow → StreamNow) → StreamSeen → StreamSeen
on_stream next st = record st { now = next st.now }

-- what is kept of a stream as it begins, for which its producer has this
abbrev pub begun_now : StreamPlan → List Packet → StreamNow
begun_now plan ready = stream_now 0 0 (record idle {
  ready = ready;
  sender = opening (start_of plan);
  receiver = listening plan.flow (start_of plan);
})

-- the next packet of a Tx's list is offered
abbrev pub offers_now : StreamNow → StreamNow
offers_now st = record st { offered = st.offered + 1 }

-- the first packet that waits is handed out
abbrev pub hands_now : StreamNow → StreamNow
hands_now st = record st { waiting = drop 1 st.waiting }

-- how many packets the sender knows to be taken, from the start on
abbrev pub acked_now : StreamNow → ℕ
acked_now st = st.sent - st.sender.outstanding.packets

-- what the stream did
abbrev pub tally_now : StreamNow → Tally
tally_now st = record {
  sent = st.sent;
  delivered = st.taken;
  acked = acked_now st;
  epochs = st.cuts + 1;
  peak_bytes = st.peak.bytes;
  peak_packets = st.peak.packets;
}

-- how a stream stands that isn't drained
abbrev pub undrained_now : StreamNow → StreamEnd
undrained_now st = undrained st.receiver.broken st.sent (acked_now st)
