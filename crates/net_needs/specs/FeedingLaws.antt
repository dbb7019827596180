-- What a Feed asks follows from a lawful state.
use Rattle.std.specs.Prelude.{ℕ, IsTrue}
use Rattle.net_machine.specs.State.{State}
use Rattle.net_machine.specs.declared.event.Event.TheVariants.{Feed}
use Rattle.net_present.specs.Kept.{IsNow}
use Rattle.net_present.specs.Onward.{enabled_now}
use Rattle.net_present.specs.Present.{Present}
use Rattle.net_lawful.specs.Lawful.{Lawful}
use Rattle.net_needs.specs.Feeding.{FeedNeeds}

-- So it is with a Feed.
abbrev pub FeedIsReady : Type 0
FeedIsReady = (p : Present) (w : State) (b i : ℕ) → Lawful w → IsNow p w → IsTrue (enabled_now p (Feed b i)) → FeedNeeds p b i
