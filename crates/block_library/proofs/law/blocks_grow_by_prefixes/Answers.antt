use Rattle.block_library.proofs.HistoryLemmas.{block_of-prefix}
use Rattle.block_library.proofs.law.blocks_grow_by_prefixes.Goals as goal

pub returns : goal.returns
returns c = block_of-prefix
