use Rattle.block_library.proofs.HistoryLemmas.{history_goes_on}
use Rattle.block_library.proofs.law.a_history_grows_by_packets.Goals as goal

pub returns : goal.returns
returns c = history_goes_on
