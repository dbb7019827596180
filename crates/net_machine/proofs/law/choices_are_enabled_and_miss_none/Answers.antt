use Rattle.net_machine.proofs.law.choices_are_enabled_and_miss_none.Goals as goal
use Rattle.net_machine.proofs.Laws.{chosen_is_enabled, chosen_is_whole, nothing_is_chosen}

pub returns : goal.returns
returns c = record { enabled = chosen_is_enabled; none = nothing_is_chosen; whole = chosen_is_whole }
