use Rattle.net_growth.proofs.law.only_an_enter_uses_up_what_a_tx_made.Goals as goal
use Rattle.net_growth.proofs.Laws.{only_enters_send}

pub returns : goal.returns
returns c = only_enters_send
