use Rattle.credit_lane.proofs.Laws.{lawful}
use Rattle.credit_lane.proofs.law.between_steps.Goals as goal

pub returns : goal.returns
returns c = lawful
