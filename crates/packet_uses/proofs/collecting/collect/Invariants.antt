-- The packets taken and those still shown are all that the pieces show.
use Rattle.packet_uses.proofs.CollectLemmas.{Follows}
use Rattle.packet_uses.proofs.collecting.collect.Given as goal

abbrev pub invariant-loop-piece : goal.invariant-loop-piece
invariant-loop-piece l = Follows l.pieces l.piece-index l.decoder l.packets
