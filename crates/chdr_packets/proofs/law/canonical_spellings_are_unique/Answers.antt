use Rattle.chdr_packets.proofs.Laws.{one_canon}
use Rattle.chdr_packets.proofs.law.canonical_spellings_are_unique.Goals as goal

pub returns : goal.returns
returns c = one_canon
