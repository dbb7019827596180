use Rattle.net_present.proofs.law.the_present_tells.Goals as goal
use Rattle.net_present.proofs.Tells.{fronts_agree, present_tells}

pub returns-clause-fronts : goal.returns-clause-fronts
returns-clause-fronts c = fronts_agree

pub returns-clause-tells : goal.returns-clause-tells
returns-clause-tells c = present_tells
