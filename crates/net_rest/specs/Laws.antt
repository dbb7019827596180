-- Without messages none comes by an event, and a whole run leaves a network at rest as it found it.
use Rattle.std.specs.Prelude.{◌≡◌, IsTrue, List}
use Rattle.net_machine.specs.declared.event.Event.{Event}
use Rattle.net_machine.specs.declared.plan.RunPlan.{RunPlan}
use Rattle.net_machine.specs.Begin.{begun}
use Rattle.net_machine.specs.CanBegin.{CanBegin}
use Rattle.net_machine.specs.Conditions.{enabled}
use Rattle.net_machine.specs.Effects.{after}
use Rattle.net_machine.specs.Moves.{IsAtRest, IsLegal, IsWhole, after_journal, moves_of}
use Rattle.net_machine.specs.State.{State}
use Rattle.net_lawful.specs.Lawful.{Lawful}
use Rattle.net_rest.specs.Messages.{HasNoMessages}

-- A lawful network at rest has no messages.
abbrev pub RestHasNoMessages : Type 0
RestHasNoMessages = (w : State) → Lawful w → IsAtRest w → HasNoMessages w

-- It has none as a run begins.
abbrev pub BegunHasNoMessages : Type 0
BegunHasNoMessages = (plan : RunPlan) (w : State) → HasNoMessages w → HasNoMessages (begun plan w)

-- state v has no messages, and its nodes hold what they hold in w: tables, requests and answers
pub record StaysWithoutMessages (w v : State) : Type 0 where
  pub none : HasNoMessages v
  pub nodes : v.nodes ≡ w.nodes

-- Without messages no event brings any, and none changes a node.
abbrev pub NoMessagesCome : Type 0
NoMessagesCome = (w : State) (e : Event) → Lawful w → HasNoMessages w → IsTrue (enabled w e) → StaysWithoutMessages w (after w e)

-- So it is with a legal journal.
abbrev pub NoMessagesComeInJournals : Type 0
NoMessagesComeInJournals = (w : State) (journal : List Event) → Lawful w → HasNoMessages w → IsLegal w (moves_of journal)
    → StaysWithoutMessages w (after_journal w journal)

-- what a whole run leaves: a network at rest, whose nodes hold what they held before
pub record LeavesAtRest (w end : State) : Type 0 where
  pub rest : IsAtRest end
  pub nodes : end.nodes ≡ w.nodes

-- A whole run of a plan that begins at rest on a lawful network leaves it at rest.
abbrev pub RunsRest : Type 0
RunsRest = (plan : RunPlan) (w : State) (journal : List Event) → Lawful w → IsAtRest w → CanBegin w.tree w.nodes plan
    → IsWhole (begun plan w) journal → LeavesAtRest w (after_journal (begun plan w) journal)
