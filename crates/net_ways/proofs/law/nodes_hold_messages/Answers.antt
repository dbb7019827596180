use Rattle.net_ways.proofs.law.nodes_hold_messages.Goals as goal
use Rattle.net_ways.proofs.Laws.{built_holds_messages, messages_stay}

pub returns : goal.returns
returns c = record { built = built_holds_messages; stay = messages_stay }
