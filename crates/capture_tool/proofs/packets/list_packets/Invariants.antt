use Rattle.std.proofs.Common.{◌≡◌, ◌+◌, length}
use Rattle.capture_tool.specs.Follows.{IsWithin, Lists}
use Rattle.capture_tool.proofs.packets.list_packets.Given as goal

abbrev pub invariant-loop-placed : goal.invariant-loop-placed
invariant-loop-placed l = record {
  lists : Lists l.initial.decoder l.decoder l.initial.packets l.packets l.initial.page l.page;
  within : IsWithin l.decoder l.packets 0;
  place : l.decoder.at + length l.decoder.kept ≡ l.initial.decoder.at + length l.initial.decoder.kept;
}

abbrev pub decreases-loop-placed : goal.decreases-loop-placed
decreases-loop-placed l = length l.decoder.kept
