-- What a Hop and a Lose ask follows from a lawful state.
use Rattle.std.specs.Prelude.{ℕ, IsTrue}
use Rattle.net_machine.specs.State.{State}
use Rattle.net_machine.specs.declared.event.Event.TheVariants.{Hop, Lose}
use Rattle.net_present.specs.Kept.{IsNow}
use Rattle.net_present.specs.Onward.{enabled_now}
use Rattle.net_present.specs.Present.{Present}
use Rattle.net_lawful.specs.Lawful.{Lawful}
use Rattle.net_needs.specs.Hopping.{HopNeeds, LoseNeeds}

-- So it is with a Hop.
abbrev pub HopIsReady : Type 0
HopIsReady = (p : Present) (w : State) (q : ℕ) → Lawful w → IsNow p w → IsTrue (enabled_now p (Hop q)) → HopNeeds p q

-- And with a Lose.
abbrev pub LoseIsReady : Type 0
LoseIsReady = (p : Present) (w : State) (q : ℕ) → Lawful w → IsNow p w → IsTrue (enabled_now p (Lose q)) → LoseNeeds p q
