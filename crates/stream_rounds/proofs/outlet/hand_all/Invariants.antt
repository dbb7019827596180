use Rattle.std.proofs.Common.{◌≡◌, length}
use Rattle.net_machine.specs.State.{State}
use Rattle.fabric_net.specs.Standing.{StandsFor}
use Rattle.stream_rounds.specs.Presents.{at}
use Rattle.stream_rounds.proofs.Handing.{IsHandingAll}
use Rattle.stream_rounds.proofs.outlet.hand_all.Given as goal

-- some of what waited was put
abbrev pub invariant-loop-packet : goal.invariant-loop-packet
invariant-loop-packet l = record {
  hands : IsHandingAll l.stream l.fn.net.present l.net.present l.fn.tx l.tx l.put;
  machine : (w : State) → StandsFor l.fn.net.present w → StandsFor l.net.present w;
  journal : l.net.journal ≡ l.fn.net.journal;
}

-- what waits still
abbrev pub decreases-loop-packet : goal.decreases-loop-packet
decreases-loop-packet l = length (at l.net.present l.stream).waiting
