use Rattle.std.proofs.Common.{◌≡◌, map}
use Rattle.std.specs.List.{range_with_len}
use Rattle.net_machine.specs.State.{State}
use Rattle.net_machine.specs.Tallies.{end_of}
use Rattle.fabric_net.specs.Standing.{StandsFor}
use Rattle.stream_pump.proofs.tells.ends.Given as goal

abbrev pub invariant-loop-s : goal.invariant-loop-s
invariant-loop-s l = (w : State) → StandsFor l.net.present w → l.ends ≡ map (end_of w) (range_with_len 0 l.s)
