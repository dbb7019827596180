use Rattle.net_nodes.proofs.Laws.{tables_are_maps}
use Rattle.net_nodes.proofs.law.tables_are_maps.Goals as goal

pub returns : goal.returns
returns c = tables_are_maps c.args.table.now
