use Rattle.net_topology.proofs.Laws.{faults_are_unique, trees_have_no_fault}
use Rattle.net_topology.proofs.law.refusals_exclude_each_other.Goals as goal

pub returns-clause-tree : goal.returns-clause-tree
returns-clause-tree c = trees_have_no_fault c.args.plan.now

pub returns-clause-one : goal.returns-clause-one
returns-clause-one c = faults_are_unique c.args.plan.now
