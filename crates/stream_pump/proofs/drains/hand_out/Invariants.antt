use Rattle.std.proofs.Common.{◌≡◌, length}
use Rattle.net_machine.specs.State.{State}
use Rattle.fabric_net.specs.Standing.{StandsFor}
use Rattle.stream_pump.specs.Drains.{waiting_at}
use Rattle.stream_pump.proofs.Draining.{IsHanding}
use Rattle.stream_pump.proofs.drains.hand_out.Given as goal

-- some of what waited was handed out
abbrev pub invariant-loop-packet : goal.invariant-loop-packet
invariant-loop-packet l = record {
  hands : IsHanding l.s l.initial.net.present l.net.present l.initial.drain l.drain;
  machine : (w : State) → StandsFor l.initial.net.present w → StandsFor l.net.present w;
  journal : l.net.journal ≡ l.initial.net.journal;
}

-- what waits still
abbrev pub decreases-loop-packet : goal.decreases-loop-packet
decreases-loop-packet l = length (waiting_at l.net.present l.s)
