use Rattle.run_plans.proofs.Kept.{new_layout}
use Rattle.run_plans.proofs.layout.Layout.new.Goals as goal

pub returns-clause-empty : goal.returns-clause-empty
returns-clause-empty c = rw (c.new.ensures, c.new-2.ensures) new_layout
