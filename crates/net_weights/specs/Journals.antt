-- Each event lowers the weight of a state, so a journal has an end.
use Rattle.std.specs.Prelude.{◌≤◌, ◌<◌, ◌+◌, ℕ, IsTrue, List, [], ◌∷◌, length}
use Rattle.chdr_words.specs.declared.command.CmdOp.{CmdOp}
use Rattle.net_machine.specs.declared.event.Event.{Event}
use Rattle.net_machine.specs.declared.event.Event.TheVariants as event
use Rattle.net_machine.specs.CanBegin.{bound_of}
use Rattle.net_machine.specs.Conditions.{enabled}
use Rattle.net_machine.specs.Effects.{after}
use Rattle.net_machine.specs.Moves.{IsLegal, moves_of}
use Rattle.net_machine.specs.Plans.{plan_at}
use Rattle.net_machine.specs.State.{State, stream_at}
use Rattle.net_ways.specs.Standing.{ArePlaced, HaveWays}
use Rattle.net_ways.specs.Ways.{IsLedTo}
use Rattle.net_flows.specs.Flows.{IsSteady}
use Rattle.net_flows.specs.Going.{EachGoesOn}
use Rattle.net_weights.specs.Charge.{weight}

-- what was sent on each stream, and what is ready on it, are no more packets than the plan allows it
abbrev pub AreBounded : State → Type 0
AreBounded w = (s : ℕ) → s < length w.streams → length (stream_at w s).sent + length (stream_at w s).ready ≤ bound_of w.plan s

-- what the weight of a state needs to fall
pub record IsWeighed (w : State) : Type 0 where
  pub steady : IsSteady w
  pub bounded : AreBounded w
  -- a stream that may give a command has its way
  pub ways : (s : ℕ) (op : CmdOp) → IsTrue (enabled w (event.Command s op)) → IsLedTo w (plan_at w.plan s).from (plan_at w.plan s).to

-- An event lowers the weight, if each stream goes on by acts.
abbrev pub WeightFalls : Type 0
WeightFalls = (w : State) (e : Event) → IsWeighed w → IsSteady (after w e) → EachGoesOn w (after w e) → IsTrue (enabled w e)
    → weight (after w e) < weight w

-- So it does as long as tables lead and entries stand on their ways.
abbrev pub LedWeightFalls : Type 0
LedWeightFalls = (w : State) (e : Event) → IsSteady w → HaveWays w → ArePlaced w → AreBounded w → IsTrue (enabled w e)
    → weight (after w e) < weight w

-- what it needs in each state of a journal
abbrev pub AreWeighed : State → List Event → Type 0
AreWeighed w [] = IsSteady w
AreWeighed w (e ∷ journal) = IsWeighed w × (EachGoesOn w (after w e) × AreWeighed (after w e) journal)

-- A journal has at most as many events as the state in which it begins weighs.
abbrev pub JournalsEnd : Type 0
JournalsEnd = (w : State) (journal : List Event) → AreWeighed w journal → IsLegal w (moves_of journal) → length journal ≤ weight w
