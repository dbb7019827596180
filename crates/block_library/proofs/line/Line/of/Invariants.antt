use Rattle.std.proofs.Common.{◌≡◌, take}
use Rattle.block_library.specs.Lines.{line_of}
use Rattle.block_library.proofs.line.Line.of.Given as goal

-- the line of the packets so far
abbrev pub invariant-loop-packet : goal.invariant-loop-packet
invariant-loop-packet l = l.line ≡ line_of l.block l.item (take l.packet-index l.packets)
