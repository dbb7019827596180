use Rattle.chdr_packets.proofs.Laws.{one_at_front}
use Rattle.chdr_packets.proofs.law.one_packet_is_in_front.Goals as goal

pub returns : goal.returns
returns c = one_at_front
