use Rattle.net_nodes.proofs.Laws.{crossbar_sites_fit, adapter_sites_fit, end_sites_fit}
use Rattle.net_nodes.proofs.law.nodes_are_sites_that_fit.Goals as goal

pub returns-clause-crossbar : goal.returns-clause-crossbar
returns-clause-crossbar c = crossbar_sites_fit c.args.switch.now

pub returns-clause-adapter : goal.returns-clause-adapter
returns-clause-adapter c = adapter_sites_fit c.args.switch.now

pub returns-clause-end_node : goal.returns-clause-end_node
returns-clause-end_node c = end_sites_fit c.args.node.now
