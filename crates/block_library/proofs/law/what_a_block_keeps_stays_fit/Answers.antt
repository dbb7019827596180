use Rattle.block_library.proofs.KeptLemmas.{kept_stays_fit}
use Rattle.block_library.proofs.law.what_a_block_keeps_stays_fit.Goals as goal

pub returns : goal.returns
returns c = kept_stays_fit
