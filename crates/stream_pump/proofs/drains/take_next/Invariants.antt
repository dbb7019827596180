use Rattle.std.proofs.Common.{◌≡◌}
use Rattle.net_machine.specs.State.{State}
use Rattle.fabric_net.specs.Standing.{StandsFor}
use Rattle.stream_pump.proofs.Waiting.{IsLooking}
use Rattle.stream_pump.proofs.drains.take_next.Given as goal

-- nothing waited on the streams so far
abbrev pub invariant-loop-s : goal.invariant-loop-s
invariant-loop-s l = record {
  looks : IsLooking l.s l.initial.net.present l.net.present l.initial.drains.items l.drains.items;
  machine : (w : State) → StandsFor l.initial.net.present w → StandsFor l.net.present w;
  journal : l.net.journal ≡ l.initial.net.journal;
}
