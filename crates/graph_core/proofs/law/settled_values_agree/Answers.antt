use Rattle.graph_core.proofs.Settled.{edges_agree, edges_show, blocks_agree}
use Rattle.graph_core.proofs.law.settled_values_agree.Goals as goal

pub returns-clause-edges : goal.returns-clause-edges
returns-clause-edges c = edges_agree

pub returns-clause-blocks : goal.returns-clause-blocks
returns-clause-blocks c = blocks_agree

pub returns-clause-found : goal.returns-clause-found
returns-clause-found c = edges_show
