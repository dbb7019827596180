use Rattle.chdr_packets.proofs.Laws.{read_within, read_spelled, read_marked}
use Rattle.chdr_packets.proofs.law.what_is_read_is_spelled.Goals as goal

pub returns : goal.returns
returns c = record { within = read_within; spelled = read_spelled; marked = read_marked }
