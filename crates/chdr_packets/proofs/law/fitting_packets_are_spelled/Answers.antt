use Rattle.chdr_packets.proofs.Laws.{fitting_spelled}
use Rattle.chdr_packets.proofs.law.fitting_packets_are_spelled.Goals as goal

pub returns : goal.returns
returns c = fitting_spelled
