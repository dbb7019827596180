use Rattle.net_needs.proofs.law.what_enters_has_a_place.Goals as goal
use Rattle.net_needs.proofs.Laws.{ask_is_ready, command_is_ready, enter_is_ready, reply_is_ready, report_is_ready, seen_is_ready}

pub returns : goal.returns
returns c = record { enter = enter_is_ready; command = command_is_ready; report = report_is_ready; seen = seen_is_ready; ask = ask_is_ready; reply = reply_is_ready }
