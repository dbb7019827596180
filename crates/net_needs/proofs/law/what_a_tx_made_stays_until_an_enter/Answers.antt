use Rattle.net_needs.proofs.law.what_a_tx_made_stays_until_an_enter.Goals as goal
use Rattle.net_needs.proofs.Laws.{only_enters_send}

pub returns : goal.returns
returns c = only_enters_send
