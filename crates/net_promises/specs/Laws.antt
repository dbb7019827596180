-- What follows for each state of a run: what the report promises, and what a present rests on.
use Rattle.std.specs.Prelude.{ℕ, ◌<◌, List, length}
use Rattle.net_machine.specs.declared.plan.RunPlan.{RunPlan}
use Rattle.net_machine.specs.Begin.{begun}
use Rattle.net_machine.specs.CanBegin.{CanBegin}
use Rattle.net_machine.specs.Moves.{IsAtRest, IsLegal, Move, after_all}
use Rattle.net_machine.specs.Promises.{KeepsPromise}
use Rattle.net_machine.specs.State.{State}
use Rattle.net_present.specs.Fits.{FitsPresent}
use Rattle.net_lawful.specs.Lawful.{Lawful}

-- In a lawful network each stream keeps the report's promise.
abbrev pub LawfulKeepsPromises : Type 0
LawfulKeepsPromises = (w : State) (s : ℕ) → s < length w.plan.streams → Lawful w → KeepsPromise w s

-- So it does in each state of a legal run of a lawful network.
abbrev pub RunsKeepPromises : Type 0
RunsKeepPromises = (plan : RunPlan) (w : State) (moves : List Move) (s : ℕ) → s < length plan.streams → Lawful w → IsAtRest w
    → CanBegin w.tree w.nodes plan → IsLegal (begun plan w) moves → KeepsPromise (after_all (begun plan w) moves) s

-- A present can stand for a lawful state.
abbrev pub LawfulFitsPresent : Type 0
LawfulFitsPresent = (w : State) → Lawful w → FitsPresent w
