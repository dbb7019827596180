use Rattle.run_plans.proofs.Refused.{refused_blocks, refused_plans, refused_streams}
use Rattle.run_plans.proofs.law.refused_plans_do_not_begin.Goals as goal

pub returns-clause-runs : goal.returns-clause-runs
returns-clause-runs c = refused_plans

pub returns-clause-blocks : goal.returns-clause-blocks
returns-clause-blocks c = refused_blocks

pub returns-clause-streams : goal.returns-clause-streams
returns-clause-streams c = refused_streams
