use Rattle.net_promises.proofs.law.what_comes_can_be_taken_in.Goals as goal
use Rattle.net_promises.proofs.Laws.{arrivals_find_room, feeds_fit, requests_fit}

pub returns : goal.returns
returns c = record { samples = arrivals_find_room; requests = requests_fit; feeds = feeds_fit }
