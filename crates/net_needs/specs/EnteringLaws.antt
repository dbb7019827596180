-- What an event by which something enters asks follows from a lawful state.
use Rattle.std.specs.Prelude.{ℕ, IsTrue}
use Rattle.chdr_words.specs.declared.command.CmdOp.{CmdOp}
use Rattle.net_machine.specs.State.{State}
use Rattle.net_machine.specs.declared.event.Event.TheVariants.{Ask, Command, Enter, Reply, Report, Seen}
use Rattle.net_present.specs.Kept.{IsNow}
use Rattle.net_present.specs.Onward.{enabled_now}
use Rattle.net_present.specs.Present.{Present}
use Rattle.net_lawful.specs.Lawful.{Lawful}
use Rattle.net_needs.specs.Entering.{AskNeeds, CommandNeeds, EnterNeeds, ReplyNeeds, ReportNeeds, SeenNeeds}

-- So it is with an Enter.
abbrev pub EnterIsReady : Type 0
EnterIsReady = (p : Present) (w : State) (s : ℕ) → Lawful w → IsNow p w → IsTrue (enabled_now p (Enter s)) → EnterNeeds p s

-- And with a Command.
abbrev pub CommandIsReady : Type 0
CommandIsReady = (p : Present) (w : State) (s : ℕ) (op : CmdOp) → Lawful w → IsNow p w
    → IsTrue (enabled_now p (Command s op)) → CommandNeeds p s op

-- And with a Report.
abbrev pub ReportIsReady : Type 0
ReportIsReady = (p : Present) (w : State) (s : ℕ) → Lawful w → IsNow p w → IsTrue (enabled_now p (Report s)) → ReportNeeds p s

-- And with a taking at an Rx.
abbrev pub SeenIsReady : Type 0
SeenIsReady = (p : Present) (w : State) (s n : ℕ) → Lawful w → IsNow p w → IsTrue (enabled_now p (Seen s n)) → SeenNeeds p s n

-- And with an Ask.
abbrev pub AskIsReady : Type 0
AskIsReady = (p : Present) (w : State) (x : ℕ) → Lawful w → IsNow p w → IsTrue (enabled_now p (Ask x)) → AskNeeds p x

-- And with a Reply.
abbrev pub ReplyIsReady : Type 0
ReplyIsReady = (p : Present) (w : State) (x : ℕ) → Lawful w → IsNow p w → IsTrue (enabled_now p (Reply x)) → ReplyNeeds p x
