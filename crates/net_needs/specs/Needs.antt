-- What each event asks of the parts of a net follows from a lawful state.
use Rattle.std.specs.Prelude.{IsTrue}
use Rattle.net_machine.specs.State.{State}
use Rattle.net_machine.specs.declared.event.Event.{Event}
use Rattle.net_machine.specs.declared.event.Event.TheVariants.{Ask, Command, Enter, Feed, Hop, Lose, Reply, Report, Seen}
use Rattle.net_present.specs.Kept.{IsNow}
use Rattle.net_present.specs.Onward.{enabled_now}
use Rattle.net_present.specs.Present.{Present}
use Rattle.net_lawful.specs.Lawful.{Lawful}
use Rattle.net_needs.specs.Entering.{AskNeeds, CommandNeeds, EnterNeeds, ReplyNeeds, ReportNeeds, SeenNeeds}
use Rattle.net_needs.specs.Feeding.{FeedNeeds}
use Rattle.net_needs.specs.Hopping.{HopNeeds, LoseNeeds}

-- what an event asks
abbrev pub NeedsOf : Present → Event → Type 0
NeedsOf p (Enter s) = EnterNeeds p s
NeedsOf p (Command s op) = CommandNeeds p s op
NeedsOf p (Report s) = ReportNeeds p s
NeedsOf p (Seen s n) = SeenNeeds p s n
NeedsOf p (Feed b i) = FeedNeeds p b i
NeedsOf p (Ask x) = AskNeeds p x
NeedsOf p (Reply x) = ReplyNeeds p x
NeedsOf p (Lose q) = LoseNeeds p q
NeedsOf p (Hop q) = HopNeeds p q

-- What an enabled event asks is there.
abbrev pub LawfulGivesNeeds : Type 0
LawfulGivesNeeds = (p : Present) (w : State) (e : Event) → Lawful w → IsNow p w → IsTrue (enabled_now p e) → NeedsOf p e
