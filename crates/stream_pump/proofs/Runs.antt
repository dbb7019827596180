-- From the beginning of a run to its book.
use Rattle.std.proofs.Common.{◌≡◌, ℕ, List, [], sym, subst}
use Rattle.std.specs.Prelude.{Result, Ok, Err, IfOk, OnOk, Option, replicate}
use Rattle.std.specs.List.{AllByRecursion}
use Rattle.block_registers.specs.Registers.{Registers}
use Rattle.chdr_packets.specs.declared.packet.Packet.{Packet}
use Rattle.net_machine.specs.declared.event.Event.{Event}
use Rattle.net_machine.specs.declared.plan.RunPlan.{RunPlan}
use Rattle.net_machine.specs.Begin.{begun}
use Rattle.net_machine.specs.Choice.{IsChosen}
use Rattle.net_machine.specs.Moves.{after_journal}
use Rattle.net_machine.specs.State.{State}
use Rattle.net_present.specs.Fits.{ArePlanned}
use Rattle.net_present.specs.Present.{Present}
use Rattle.net_promises.proofs.Laws.{lawful_fits_present}
use Rattle.net_runs.specs.Runs.{LosesNothing}
use Rattle.fabric_events.specs.Begun.{begun_now}
use Rattle.fabric_net.specs.NetView.{NetSeen}
use Rattle.fabric_net.specs.Standing.{IsResting, StandsFor}
use Rattle.run_books.specs.Books.{IsChosenBook}
use Rattle.run_books.specs.declared.book.RunBook.{RunBook}
use Rattle.stream_pump.specs.Drains.{AreTaken}
use Rattle.stream_pump.specs.PlainBooks.{IsPlainBook}
use Rattle.stream_pump.specs.Running.{CanRun, HasRun, IsOpen}
use Rattle.stream_pump.specs.Telling.{TellsNow}
use Rattle.stream_pump.proofs.Beginning.{none-taken}
use Rattle.stream_pump.proofs.Books.{chosen-book, rest-after, tells-of, whole-run}
use Rattle.stream_pump.proofs.Ending.{rests}
use Rattle.stream_pump.proofs.Plain.{plain-book}

-- what holds of an Ok with two facts
pub both-ok : {A E : Type 0} (P Q R : A → Type 0) (r : Result A E) → IfOk r P → IfOk r Q → ((x : A) → P x → Q x → R x) → IfOk r R
both-ok P Q R (Ok x) p q f = f x p q
both-ok P Q R (Err e) p q f = tt

pub on-ok : {A E : Type 0} (r : Result A E) (P : Type 0) → P → OnOk r P
on-ok (Ok x) P p = p
on-ok (Err e) P p = tt

-- the first state of a run
pub opens : (plan : RunPlan) (p q : Present) (w : State) (n : ℕ) (banks : List (Option Registers)) (drains : List (List Packet))
    → q ≡ begun_now plan p → StandsFor q (begun plan w) → w.banks ≡ banks → drains ≡ replicate n [] → IsOpen q banks drains (begun plan w)
opens plan p q w n banks drains is stands same none = record {
  stands = stands;
  slots = same;
  taken = subst (λ (ds : List (List Packet)). AreTaken q (begun plan w) ds) (sym none)
      (subst (λ (r : Present). AreTaken r (begun plan w) (replicate n [])) (sym is) (none-taken n plan p w));
}

pub planned-in : (q : Present) (plan : RunPlan) (w : State) → StandsFor q (begun plan w) → ArePlanned plan
planned-in q plan w stands = (lawful_fits_present (begun plan w) stands.lawful).ends

pub book-of : (seed : ℕ) (plan : RunPlan) (w : State) (net : NetSeen) (banks : List (Option Registers)) (drains : List (List Packet)) (book : RunBook)
    → CanRun plan w → HasRun seed (begun plan w) net banks drains → book.journal ≡ net.journal
    → ((v : State) → StandsFor net.present v → AreTaken net.present v drains → TellsNow v book)
    → IsChosenBook seed (begun plan w) book
book-of seed plan w net banks drains book can run same tells = record {
  chosen = chosen;
  tells = tells-of plan w book can (whole-run seed plan w book.journal can chosen)
      (subst (λ (js : List Event). TellsNow (after_journal (begun plan w) js) book) (sym same)
      (tells (after_journal (begun plan w) net.journal) run.here.stands run.here.taken));
}
  where
    chosen : IsChosen seed (begun plan w) book.journal
    chosen = subst (λ (js : List Event). IsChosen seed (begun plan w) js) (sym same) run.chosen

pub rests-then : (seed : ℕ) (plan : RunPlan) (w : State) (net : NetSeen) (banks : List (Option Registers)) (drains : List (List Packet))
    → CanRun plan w → HasRun seed (begun plan w) net banks drains → IsResting net.present
rests-then seed plan w net banks drains can run =
    rests net.present (after_journal (begun plan w) net.journal) run.here.stands (rest-after plan w net.journal can (whole-run seed plan w net.journal can run.chosen))

pub plain-then : (seed : ℕ) (plan : RunPlan) (w : State) (book : RunBook) → CanRun plan w → IsChosenBook seed (begun plan w) book
    → AllByRecursion LosesNothing book.journal → IsPlainBook plan book
plain-then seed plan w book can is lost = plain-book plan w book can (chosen-book seed plan w book can is) lost

pub ok-unit : {A E : Type 0} (r : Result A E) → IfOk r (λ (x : A). Unit {0})
ok-unit (Ok x) = tt
ok-unit (Err e) = tt
