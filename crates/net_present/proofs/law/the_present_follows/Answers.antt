use Rattle.net_present.proofs.law.the_present_follows.Goals as goal
use Rattle.net_present.proofs.Follows.{present_follows}

pub returns : goal.returns
returns c = present_follows
