-- A run from a net at rest to its end, whatever the order of its events.
use Rattle.std.specs.Prelude.{List}
use Rattle.net_machine.specs.declared.event.Event.{Event}
use Rattle.net_machine.specs.declared.plan.RunPlan.{RunPlan}
use Rattle.net_machine.specs.Begin.{begun}
use Rattle.net_machine.specs.CanBegin.{CanBegin}
use Rattle.net_machine.specs.Moves.{IsWhole, after_journal}
use Rattle.net_machine.specs.State.{State}
use Rattle.net_present.specs.Present.{Present}
use Rattle.fabric_net.specs.Standing.{IsResting, StandsFor}
use Rattle.run_books.specs.Books.{IsBookOf}
use Rattle.run_books.specs.declared.book.RunBook.{RunBook}
use Rattle.stream_pump.specs.Running.{CanRun}
use Rattle.stream_pump.specs.Telling.{TellsNow}

-- A net at rest that can begin a plan stands for networks that can run it.
abbrev pub RestingNetsCanRun : Type 0
RestingNetsCanRun = (plan : RunPlan) (p : Present) (w : State) → StandsFor p w → IsResting p → CanBegin p.tree p.nodes plan → CanRun plan w

-- What a net tells at the end of a whole run is that run's book.
abbrev pub WholeRunsHaveBooks : Type 0
WholeRunsHaveBooks = (plan : RunPlan) (w : State) (book : RunBook) → CanRun plan w → IsWhole (begun plan w) book.journal
    → TellsNow (after_journal (begun plan w) book.journal) book → IsBookOf (begun plan w) book

-- A net is at rest once a whole run is over.
abbrev pub WholeRunsRest : Type 0
WholeRunsRest = (plan : RunPlan) (p : Present) (w : State) (journal : List Event) → CanRun plan w → IsWhole (begun plan w) journal
    → StandsFor p (after_journal (begun plan w) journal) → IsResting p
