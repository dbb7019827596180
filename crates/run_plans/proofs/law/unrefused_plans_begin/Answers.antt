use Rattle.run_plans.proofs.Unrefused.{unrefused_plans}
use Rattle.run_plans.proofs.law.unrefused_plans_begin.Goals as goal

pub returns : goal.returns
returns c = unrefused_plans
