use Rattle.chdr_packets.proofs.Laws.{reads_back}
use Rattle.chdr_packets.proofs.law.spellings_are_read_back.Goals as goal

pub returns : goal.returns
returns c = reads_back
