use Rattle.std.proofs.Common.{◌≡◌, ℕ, ◌<◌}
use Rattle.net_machine.specs.State.{State}
use Rattle.fabric_net.specs.Offering.{IsSupplied}
use Rattle.fabric_net.specs.Standing.{StandsFor}
use Rattle.stream_pump.specs.Supply.{OnlyOffers}
use Rattle.stream_pump.proofs.supply.supply.Given as goal

-- the streams so far are supplied, and nothing else changed
abbrev pub invariant-loop-s : goal.invariant-loop-s
invariant-loop-s l = record {
  supplied : (s : ℕ) → s < l.s → IsSupplied l.net.present s;
  offers : OnlyOffers l.initial.net.present l.net.present;
  machine : (w : State) → StandsFor l.initial.net.present w → StandsFor l.net.present w;
  journal : l.net.journal ≡ l.initial.net.journal;
}
