use Rattle.net_growth.proofs.law.what_is_given_only_grows.Goals as goal
use Rattle.net_growth.proofs.Laws.{given_grows}

pub returns : goal.returns
returns c = given_grows
