-- What the plan alone tells of a run in which nothing was lost.
use Rattle.std.specs.Prelude.{◌≡◌, ℕ, [], length, map}
use Rattle.std.specs.List.{AllByRecursion}
use Rattle.block_library.specs.Lines.{line_of}
use Rattle.stream_endpoint.specs.Counts.{none}
use Rattle.net_machine.specs.declared.plan.RunPlan.{RunPlan}
use Rattle.net_machine.specs.declared.tally.StreamEnd.TheVariants.{Drained}
use Rattle.net_machine.specs.declared.tally.Tally.{Tally}
use Rattle.net_machine.specs.Begin.{begun}
use Rattle.net_machine.specs.Plain.{plain}
use Rattle.net_machine.specs.Plans.{block_at, is_rx}
use Rattle.net_machine.specs.State.{State}
use Rattle.net_ends.specs.Complete.{plain_at, plain_tally}
use Rattle.net_runs.specs.Lossless.{AllResynchronise}
use Rattle.net_runs.specs.Runs.{LosesNothing}
use Rattle.run_books.specs.declared.book.RunBook.{RunBook}
use Rattle.run_books.specs.Books.{IsBookOf, IsChosenBook, blocks_of, each_stream}
use Rattle.stream_pump.specs.Running.{CanRun}
use Rattle.stream_pump.specs.Telling.{has_line}

-- a tally without its peaks
abbrev pub without_peaks : Tally → Tally
without_peaks tally = record tally { peak_bytes = 0; peak_packets = 0 }

-- Each stream is drained, and carried the list that the plan tells; so did each Rx take it, and each line tells of it.
pub record IsPlainBook (plan : RunPlan) (book : RunBook) : Type 0 where
  pub ends : book.ends ≡ each_stream (λ s. Drained) plan
  pub tallies : map without_peaks book.tallies ≡ each_stream (λ s. plain_tally (length (plain plan s)) none) plan
  pub taken : book.taken ≡ map (plain_at plan) (blocks_of is_rx plan)
  pub lines : book.lines ≡ map (λ b. line_of b (block_at plan b).item (plain_at plan b)) (blocks_of has_line plan)

-- The book of the run that one thread takes is the book of a run.
abbrev pub ChosenBooksAreBooks : Type 0
ChosenBooksAreBooks = (seed : ℕ) (plan : RunPlan) (w : State) (book : RunBook) → CanRun plan w → IsChosenBook seed (begun plan w) book
    → IsBookOf (begun plan w) book

-- Where nothing was lost a book is plain.
abbrev pub BooksWithoutLossesArePlain : Type 0
BooksWithoutLossesArePlain = (plan : RunPlan) (w : State) (book : RunBook) → CanRun plan w → IsBookOf (begun plan w) book
    → AllByRecursion LosesNothing book.journal → IsPlainBook plan book

-- Where the plan names no packet to lose, nothing is lost.
abbrev pub BooksLoseOnlyWhatIsNamed : Type 0
BooksLoseOnlyWhatIsNamed = (plan : RunPlan) (w : State) (book : RunBook) → CanRun plan w → IsBookOf (begun plan w) book
    → plan.faults ≡ [] → AllByRecursion LosesNothing book.journal

-- Where each stream resynchronises by itself, the book tells of each that it is drained, whatever was lost.
abbrev pub ResynchronisingBooksDrain : Type 0
ResynchronisingBooksDrain = (plan : RunPlan) (w : State) (book : RunBook) → CanRun plan w → IsBookOf (begun plan w) book
    → AllResynchronise plan → book.ends ≡ each_stream (λ s. Drained) plan
