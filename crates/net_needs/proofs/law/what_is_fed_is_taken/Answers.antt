use Rattle.net_needs.proofs.law.what_is_fed_is_taken.Goals as goal
use Rattle.net_needs.proofs.Laws.{feed_is_ready}

pub returns : goal.returns
returns c = feed_is_ready
