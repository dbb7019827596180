use Rattle.net_nodes.proofs.Laws.{budget_stays, hops_fall, performed_packets_fit}
use Rattle.net_nodes.proofs.law.performed_packets_fit.Goals as goal

pub returns-clause-hops : goal.returns-clause-hops
returns-clause-hops c = hops_fall c.args.site.now c.args.table.now

pub returns-clause-budget : goal.returns-clause-budget
returns-clause-budget c = budget_stays c.args.site.now c.args.table.now

pub returns-clause-fits : goal.returns-clause-fits
returns-clause-fits c = performed_packets_fit c.args.site.now c.args.table.now
