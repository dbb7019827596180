use Rattle.block_library.proofs.LineLemmas.{lines_grow}
use Rattle.block_library.proofs.law.lines_grow_by_packets.Goals as goal

pub returns : goal.returns
returns c = lines_grow
