use Rattle.std.proofs.Common.{◌≡◌, ◌≤◌, ◌+◌, length}
use Rattle.capture_tool.specs.Follows.{IsWithin, CountsOn}
use Rattle.capture_tool.proofs.packets.count_packets.Given as goal

abbrev pub invariant-loop-passed : goal.invariant-loop-passed
invariant-loop-passed l = record {
  counts : CountsOn l.initial.decoder l.decoder l.initial.counts l.counts;
  within : IsWithin l.decoder l.counts.packets 0;
  less : l.counts.canonical ≤ l.counts.packets;
  place : l.decoder.at + length l.decoder.kept ≡ l.initial.decoder.at + length l.initial.decoder.kept;
}

abbrev pub decreases-loop-passed : goal.decreases-loop-passed
decreases-loop-passed l = length l.decoder.kept
