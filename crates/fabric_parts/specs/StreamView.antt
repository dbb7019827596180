-- What is kept of a stream, read from the fields.
use Rattle.std.specs.Prelude.{◌≡◌, ◌+◌, ◌≤◌, length}
use Rattle.stream_endpoint.specs.Flow.{IsValid}
use Rattle.net_present.specs.StreamSteps.{sum_now}
use Rattle.fabric_parts.specs.Streams.{StreamSeen}
use Rattle.fabric_parts.specs.declared.stream.StreamPart.TheInside.{Inside}

abbrev pub view_of : Inside → StreamSeen
view_of s = record {
  plan = s.plan;
  is_tx = s.source.is_tx;
  now = record {
    ready = s.source.ready;
    offered = s.source.offered;
    sender = s.out.sender;
    receiver = s.into.receiver;
    sent = s.sent;
    given = s.given;
    taken = s.taken;
    untaken = s.untaken.items;
    waiting = s.waiting.items;
    statuses = s.statuses;
    commands = s.commands;
    cuts = s.cuts;
    peak = s.peak;
  };
}

-- both ends are the plan's
pub record AreEnds (s : Inside) : Type 0 where
  pub valid : IsValid s.plan.flow
  pub from : s.out.me ≡ s.plan.from
  pub out_flow : s.out.flow ≡ s.plan.flow
  pub policy : s.out.policy ≡ s.plan.policy
  pub to : s.into.me ≡ s.plan.to
  pub into_flow : s.into.flow ≡ s.plan.flow

-- what is buffered wasn't taken, no more waits, and there is room for all that the flow allows
pub record IsSound (s : Inside) : Type 0 where
  pub ends : AreEnds s
  pub buffered : s.into.receiver.buffered ≡ sum_now s.untaken.items
  pub few : length s.untaken.items ≤ s.plan.flow.cap_packets
  pub counted : s.taken + length s.untaken.items ≡ s.given
  pub waits : length s.waiting.items ≤ length s.untaken.items
  pub sizes : s.untaken.capacity ≡ s.plan.flow.cap_packets
  pub packets : s.waiting.capacity ≡ s.plan.flow.cap_packets
