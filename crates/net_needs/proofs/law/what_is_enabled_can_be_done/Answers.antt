use Rattle.net_needs.proofs.law.what_is_enabled_can_be_done.Goals as goal
use Rattle.net_needs.proofs.Laws.{lawful_gives_needs}

pub returns : goal.returns
returns c = lawful_gives_needs
