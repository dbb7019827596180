-- What each event asks of the parts is there.
use Rattle.net_machine.specs.declared.event.Event.TheVariants.{Ask, Command, Enter, Feed, Hop, Lose, Reply, Report, Seen}
use Rattle.net_needs.specs.Needs.{LawfulGivesNeeds}
use Rattle.net_needs.proofs.Entering.{ask-ready, command-ready, enter-ready, reply-ready, report-ready, seen-ready}
use Rattle.net_needs.proofs.Feeding.{feed-ready}
use Rattle.net_needs.proofs.Hopping.{hop-ready, lose-ready}

pub lawful-needs : LawfulGivesNeeds
lawful-needs p w (Enter s) lawful now may_it = enter-ready p w s lawful now may_it
lawful-needs p w (Command s op) lawful now may_it = command-ready p w s op lawful now may_it
lawful-needs p w (Report s) lawful now may_it = report-ready p w s lawful now may_it
lawful-needs p w (Seen s n) lawful now may_it = seen-ready p w s n lawful now may_it
lawful-needs p w (Feed b i) lawful now may_it = feed-ready p w b i lawful now may_it
lawful-needs p w (Ask x) lawful now may_it = ask-ready p w x lawful now may_it
lawful-needs p w (Reply x) lawful now may_it = reply-ready p w x lawful now may_it
lawful-needs p w (Lose q) lawful now may_it = lose-ready p w q lawful now may_it
lawful-needs p w (Hop q) lawful now may_it = hop-ready p w q lawful now may_it
