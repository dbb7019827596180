-- The peaks that a state keeps are the greatest of all states of its run.
use Rattle.std.specs.Prelude.{◌≡◌, ℕ, List}
use Rattle.net_machine.specs.declared.plan.RunPlan.{RunPlan}
use Rattle.net_machine.specs.Begin.{begun}
use Rattle.net_machine.specs.CanBegin.{CanBegin}
use Rattle.net_machine.specs.Moves.{IsAtRest, IsLegal, Move, after_all}
use Rattle.net_machine.specs.State.{State}
use Rattle.net_machine.specs.Tallies.{tally_of, tally_over}
use Rattle.net_lawful.specs.Lawful.{Lawful}

-- What a stream did by the state that a run leaves is what it did in the run.
abbrev pub TalliesAreKept : Type 0
TalliesAreKept = (plan : RunPlan) (w : State) (moves : List Move) (s : ℕ) → Lawful w → IsAtRest w → CanBegin w.tree w.nodes plan
    → IsLegal (begun plan w) moves → tally_of (after_all (begun plan w) moves) s ≡ tally_over (begun plan w) moves s
