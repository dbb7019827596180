use Rattle.std.proofs.Common.{◌≡◌, ◌-◌, length}
use Rattle.net_machine.specs.State.{State}
use Rattle.fabric_net.specs.Standing.{StandsFor}
use Rattle.stream_rounds.proofs.Hearing.{IsHearing}
use Rattle.stream_rounds.proofs.intake.hear.Given as goal

-- some of what is known was offered
abbrev pub invariant-loop-net : goal.invariant-loop-net
invariant-loop-net l = record {
  hearing : IsHearing l.stream l.fn.net.present l.net.present l.fn.rx l.rx l.moved;
  machine : (w : State) → StandsFor l.fn.net.present w → StandsFor l.net.present w;
  journal : l.net.journal ≡ l.fn.net.journal;
}

abbrev pub decreases-loop-net : goal.decreases-loop-net
decreases-loop-net l = length l.rx.known - length l.rx.got
