use Rattle.net_walks.proofs.Laws.{hosts_have_epids, hosts_have_no_table, hosts_have_some, ports_are_few, sites_tell_arrivals}
use Rattle.net_walks.proofs.law.plans_tell_nodes.Goals as goal

pub returns-clause-epids : goal.returns-clause-epids
returns-clause-epids c = hosts_have_epids

pub returns-clause-some : goal.returns-clause-some
returns-clause-some c = hosts_have_some

pub returns-clause-tables : goal.returns-clause-tables
returns-clause-tables c = hosts_have_no_table

pub returns-clause-ports : goal.returns-clause-ports
returns-clause-ports c = ports_are_few

pub returns-clause-arrivals : goal.returns-clause-arrivals
returns-clause-arrivals c = sites_tell_arrivals
