-- The laws of books, with their proofs, for the proofs of other crates.
use Rattle.net_machine.specs.Begin.{begun}
use Rattle.net_machine.specs.Moves.{after_journal}
use Rattle.stream_pump.specs.PlainBooks.{BooksLoseOnlyWhatIsNamed, BooksWithoutLossesArePlain, ChosenBooksAreBooks, ResynchronisingBooksDrain}
use Rattle.stream_pump.specs.WholeRuns.{RestingNetsCanRun, WholeRunsHaveBooks, WholeRunsRest}
use Rattle.stream_pump.proofs.Books.{chosen-book, rest-after, whole-book}
use Rattle.stream_pump.proofs.Ending.{can-run, rests}
use Rattle.stream_pump.proofs.Plain.{named-alone, plain-book, resynchronising}

pub chosen_books_are_books : ChosenBooksAreBooks
chosen_books_are_books = chosen-book

pub books_without_losses_are_plain : BooksWithoutLossesArePlain
books_without_losses_are_plain = plain-book

pub books_lose_only_what_is_named : BooksLoseOnlyWhatIsNamed
books_lose_only_what_is_named = named-alone

pub resynchronising_books_drain : ResynchronisingBooksDrain
resynchronising_books_drain = resynchronising

pub resting_nets_can_run : RestingNetsCanRun
resting_nets_can_run = can-run

pub whole_runs_have_books : WholeRunsHaveBooks
whole_runs_have_books = whole-book

pub whole_runs_rest : WholeRunsRest
whole_runs_rest plan p w journal can whole stands = rests p (after_journal (begun plan w) journal) stands (rest-after plan w journal can whole)
