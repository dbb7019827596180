use Rattle.net_walks.proofs.Laws.{hops_leave_by_ports, links_over_are_few, ways_are_short, ways_are_walks, ways_go_over}
use Rattle.net_walks.proofs.law.ways_are_walks.Goals as goal

pub returns-clause-over : goal.returns-clause-over
returns-clause-over c = ways_go_over

pub returns-clause-walks : goal.returns-clause-walks
returns-clause-walks c = ways_are_walks

pub returns-clause-short : goal.returns-clause-short
returns-clause-short c = ways_are_short

pub returns-clause-few : goal.returns-clause-few
returns-clause-few c = links_over_are_few

pub returns-clause-hops : goal.returns-clause-hops
returns-clause-hops c = hops_leave_by_ports
