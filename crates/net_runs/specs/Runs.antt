-- Whole runs of a plan: they end, and how.
use Rattle.std.specs.Prelude.{◌≡◌, ◌≢◌, ◌<◌, ◌≤◌, ℕ, IsTrue, List, [], length}
use Rattle.std.specs.List.{AllByRecursion}
use Rattle.block_library.specs.Lines.{line_of}
use Rattle.net_machine.specs.declared.event.Event.{Event}
use Rattle.net_machine.specs.declared.event.Event.TheVariants.{Enter, Hop, Seen, Feed, Report, Command, Lose, Reply, Ask}
use Rattle.net_machine.specs.declared.plan.RunPlan.{RunPlan}
use Rattle.net_machine.specs.declared.tally.StreamEnd.TheVariants.{Drained}
use Rattle.net_machine.specs.Begin.{begun}
use Rattle.net_machine.specs.CanBegin.{CanBegin}
use Rattle.net_machine.specs.Conditions.{enabled}
use Rattle.net_machine.specs.Effects.{after}
use Rattle.net_machine.specs.Moves.{IsAtRest, IsLegal, IsWhole, after_journal, moves_of}
use Rattle.net_machine.specs.Plans.{block_at}
use Rattle.net_machine.specs.State.{State, stream_at}
use Rattle.net_machine.specs.Tallies.{end_of, line_at}
use Rattle.net_lawful.specs.Lawful.{Lawful}
use Rattle.net_weights.specs.Charge.{weight}
use Rattle.net_ends.specs.Complete.{EndsPlain, plain_at}
use Rattle.net_ends.specs.Rest.{HasCause}

-- Each event lowers the weight of a lawful network.
abbrev pub LawfulWeightFalls : Type 0
LawfulWeightFalls = (w : State) (e : Event) → Lawful w → IsTrue (enabled w e) → weight (after w e) < weight w

-- So a legal journal has at most as many events as its first state weighs.
abbrev pub LegalJournalsEnd : Type 0
LegalJournalsEnd = (w : State) (journal : List Event) → Lawful w → IsLegal w (moves_of journal) → length journal ≤ weight w

-- a whole run of a plan on a lawful network, and the state that it leaves
pub record IsRunOf (plan : RunPlan) (w : State) (journal : List Event) (end : State) : Type 0 where
  pub lawful : Lawful w
  pub rest : IsAtRest w
  pub can : CanBegin w.tree w.nodes plan
  pub whole : IsWhole (begun plan w) journal
  pub leaves : after_journal (begun plan w) journal ≡ end

-- Where a stream isn't drained in the end, a packet was lost of a stream that is joined to it and doesn't resynchronise.
abbrev pub WholeRunsEnd : Type 0
WholeRunsEnd = (plan : RunPlan) (w : State) (journal : List Event) (end : State) → IsRunOf plan w journal end
    → (s : ℕ) → s < length end.streams → end_of end s ≢ Drained → HasCause end s

-- an event loses nothing
abbrev pub LosesNothing : Event → Type 0
LosesNothing (Enter s) = Unit {0}
LosesNothing (Hop q) = Unit {0}
LosesNothing (Seen s n) = Unit {0}
LosesNothing (Feed b i) = Unit {0}
LosesNothing (Report s) = Unit {0}
LosesNothing (Command s op) = Unit {0}
LosesNothing (Lose q) = ⊥
LosesNothing (Reply x) = Unit {0}
LosesNothing (Ask x) = Unit {0}

-- As a run begins no packet is lost, and only a Lose counts one as lost.
abbrev pub BeginsWithoutLosses : Type 0
BeginsWithoutLosses = (plan : RunPlan) (w : State) (s : ℕ) → (stream_at (begun plan w) s).lost ≡ []

abbrev pub OnlyLosesCount : Type 0
OnlyLosesCount = (w : State) (e : Event) → LosesNothing e → (s : ℕ) → (stream_at (after w e) s).lost ≡ (stream_at w s).lost

-- what the plan alone tells of a run: what each stream carried, and each line
pub record IsPlainRun (plan : RunPlan) (end : State) : Type 0 where
  pub same : end.plan ≡ plan
  pub streams : (s : ℕ) → s < length end.streams → EndsPlain end s
  pub lines : (b : ℕ) → line_at end b ≡ line_of b (block_at end.plan b).item (plain_at end.plan b)

-- Where nothing was lost the plan tells all that.
abbrev pub WholeRunsEndPlain : Type 0
WholeRunsEndPlain = (plan : RunPlan) (w : State) (journal : List Event) (end : State) → IsRunOf plan w journal end
    → AllByRecursion LosesNothing journal → IsPlainRun plan end
