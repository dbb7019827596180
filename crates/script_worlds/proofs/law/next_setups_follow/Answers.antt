use Rattle.script_worlds.proofs.Alike.{alike_plan_the_same, next_is_one}
use Rattle.script_worlds.proofs.law.next_setups_follow.Goals as goal

pub returns-clause-one : goal.returns-clause-one
returns-clause-one c = next_is_one

pub returns-clause-plans : goal.returns-clause-plans
returns-clause-plans c = alike_plan_the_same
