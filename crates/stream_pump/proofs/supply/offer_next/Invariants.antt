use Rattle.std.proofs.Common.{◌≡◌}
use Rattle.net_machine.specs.State.{State}
use Rattle.net_present.specs.Kept.{now_at}
use Rattle.fabric_net.specs.Standing.{StandsFor}
use Rattle.stream_pump.specs.Supply.{OnlyOffers}
use Rattle.stream_pump.proofs.supply.offer_next.Given as goal

-- so many packets are offered, and nothing else changed
abbrev pub invariant-loop-offered : goal.invariant-loop-offered
invariant-loop-offered l = record {
  offered : (now_at l.net.present.streams l.s).offered ≡ l._offered;
  offers : OnlyOffers l.initial.net.present l.net.present;
  machine : (w : State) → StandsFor l.initial.net.present w → StandsFor l.net.present w;
  journal : l.net.journal ≡ l.initial.net.journal;
}
