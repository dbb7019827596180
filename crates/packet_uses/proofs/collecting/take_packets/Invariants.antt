-- The packets taken and those still shown are the same, and no byte is lost.
use Rattle.std.proofs.Common.{◌≡◌, ◌+◌, length}
use Rattle.packet_uses.specs.Collected.{ShowsSame}
use Rattle.packet_uses.proofs.collecting.take_packets.Given as goal

abbrev pub invariant-loop-placed : goal.invariant-loop-placed
invariant-loop-placed l = record {
  same : ShowsSame l.initial.decoder l.decoder l.initial.packets l.packets;
  place : l.decoder.at + length l.decoder.kept ≡ l.initial.decoder.at + length l.initial.decoder.kept;
}

abbrev pub decreases-loop-placed : goal.decreases-loop-placed
decreases-loop-placed l = length l.decoder.kept
