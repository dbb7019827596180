use Rattle.net_lawful.proofs.law.moves_leave_networks_lawful.Goals as goal
use Rattle.net_lawful.proofs.Laws.{all_are_lawful, lawful_stays}

pub returns : goal.returns
returns c = record { each = lawful_stays; all = all_are_lawful }
