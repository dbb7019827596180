use Rattle.chdr_packets.proofs.Laws.{spelled_fits}
use Rattle.chdr_packets.proofs.law.spelled_packets_fit.Goals as goal

pub returns : goal.returns
returns c = spelled_fits
