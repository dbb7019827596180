-- What producers make is no more than the plan allows.
use Rattle.std.specs.Prelude.{◌≡◌, ◌<◌, ◌++◌, ℕ, length}
use Rattle.net_machine.specs.Plain.{numbered_from}
use Rattle.net_machine.specs.Plans.{plan_at}
use Rattle.net_machine.specs.Promises.{made_on}
use Rattle.net_machine.specs.State.{State, stream_at}
use Rattle.net_flows.specs.Flows.{IsSteady}
use Rattle.net_weights.specs.Journals.{AreBounded}

-- what each stream sent, and what is ready with the numbers that it will get, is what its producer made so far
abbrev pub AreMade : State → Type 0
AreMade w = (s : ℕ) → s < length w.streams
    → (stream_at w s).sent ++ numbered_from (plan_at w.plan s) (length (stream_at w s).sent) (stream_at w s).ready ≡ made_on w s

-- Then no stream sends more packets than the plan allows it.
abbrev pub MadeIsBounded : Type 0
MadeIsBounded = (w : State) → IsSteady w → AreMade w → AreBounded w
