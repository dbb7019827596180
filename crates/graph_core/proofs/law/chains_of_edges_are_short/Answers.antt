use Rattle.graph_core.proofs.Ranks.{chains_are_short}
use Rattle.graph_core.proofs.law.chains_of_edges_are_short.Goals as goal

pub returns : goal.returns
returns c = chains_are_short
