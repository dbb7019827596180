use Rattle.std.proofs.Common.{◌≡◌, map, take}
use Rattle.route_writes.specs.Packets.{onward_by}
use Rattle.route_writes.proofs.packets.write_hops.Given as goal

abbrev pub invariant-loop-step : goal.invariant-loop-step
invariant-loop-step l = l.hops ≡ map onward_by (take l.step-index l.steps)
