use Rattle.std.proofs.Common.{◌≡◌, map}
use Rattle.net_machine.specs.State.{State}
use Rattle.net_machine.specs.Tallies.{line_at}
use Rattle.fabric_net.specs.Standing.{StandsFor}
use Rattle.stream_pump.specs.Drains.{AreTaken}
use Rattle.stream_pump.specs.Telling.{has_line}
use Rattle.stream_pump.proofs.Rows.{blocks_below}
use Rattle.stream_pump.proofs.lines.lines.Given as goal

abbrev pub invariant-loop-b : goal.invariant-loop-b
invariant-loop-b l = (w : State) → StandsFor l.net.present w → AreTaken l.net.present w l.drains
    → l.lines ≡ map (line_at w) (blocks_below has_line l.plan l.b)
