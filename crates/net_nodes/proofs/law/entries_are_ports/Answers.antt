use Rattle.net_nodes.proofs.Laws.{entries_are_ports}
use Rattle.net_nodes.proofs.law.entries_are_ports.Goals as goal

pub returns : goal.returns
returns c = entries_are_ports c.args.site.now c.args.table.now
