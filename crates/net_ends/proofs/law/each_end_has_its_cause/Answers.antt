use Rattle.net_ends.proofs.Laws.{all_are_drained, ends_have_causes}
use Rattle.net_ends.proofs.law.each_end_has_its_cause.Goals as goal

pub returns-clause-causes : goal.returns-clause-causes
returns-clause-causes c = ends_have_causes

pub returns-clause-drained : goal.returns-clause-drained
returns-clause-drained c = all_are_drained
