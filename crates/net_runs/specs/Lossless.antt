-- Runs in which no packet is named to be lost.
use Rattle.std.specs.Prelude.{◌≡◌, ◌<◌, ℕ, IsTrue, false, List, [], length}
use Rattle.std.specs.List.{AllByRecursion}
use Rattle.stream_endpoint.specs.declared.flow.Policy.TheVariants.{Auto}
use Rattle.net_machine.specs.declared.event.Event.{Event}
use Rattle.net_machine.specs.declared.plan.RunPlan.{RunPlan}
use Rattle.net_machine.specs.declared.plan.StreamPlan.{StreamPlan}
use Rattle.net_machine.specs.declared.tally.StreamEnd.TheVariants.{Drained}
use Rattle.net_machine.specs.Begin.{begun}
use Rattle.net_machine.specs.Conditions.{enabled}
use Rattle.net_machine.specs.Effects.{after}
use Rattle.net_machine.specs.Moves.{IsAtRest, IsLegal, moves_of}
use Rattle.net_machine.specs.State.{Entry, State, queue_at}
use Rattle.net_machine.specs.Tallies.{end_of}
use Rattle.net_runs.specs.Runs.{IsRunOf, LosesNothing}

abbrev pub IsUnmarked : Entry → Type 0
IsUnmarked e = e.marked ≡ false

-- no packet that is under way is to be lost, and none is named
pub record IsLossless (w : State) : Type 0 where
  pub named : w.faults ≡ []
  pub unmarked : (q : ℕ) → AllByRecursion IsUnmarked (queue_at w.queues q)

-- each event that can happen then loses nothing, and it stays so
pub record GoesOnLossless (w : State) (e : Event) : Type 0 where
  pub event : LosesNothing e
  pub after : IsLossless (after w e)

abbrev pub LosslessGoesOn : Type 0
LosslessGoesOn = (w : State) (e : Event) → IsLossless w → IsTrue (enabled w e) → GoesOnLossless w e

-- So in a run whose plan names no packet nothing is lost.
abbrev pub NothingNamedNothingLost : Type 0
NothingNamedNothingLost = (plan : RunPlan) (w : State) (journal : List Event) → IsAtRest w → plan.faults ≡ []
    → IsLegal (begun plan w) (moves_of journal) → AllByRecursion LosesNothing journal

-- a stream resynchronises by itself
abbrev pub IsAuto : StreamPlan → Type 0
IsAuto stream = stream.policy ≡ Auto

-- each stream of a plan does
abbrev pub AllResynchronise : RunPlan → Type 0
AllResynchronise plan = AllByRecursion IsAuto plan.streams

-- Where each does, a whole run leaves all of them drained, whatever was lost.
abbrev pub ResynchronisingRunsDrain : Type 0
ResynchronisingRunsDrain = (plan : RunPlan) (w : State) (journal : List Event) (end : State) → IsRunOf plan w journal end → AllResynchronise plan
    → (s : ℕ) → s < length end.streams → end_of end s ≡ Drained
