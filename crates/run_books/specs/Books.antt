-- What the book of a run tells, by the state in which the run began and its journal.
use Rattle.std.specs.Prelude.{◌≡◌, ◌||◌, ℕ, Bool, true, false, List, filter, length, map}
use Rattle.std.specs.List.{range_with_len}
use Rattle.block_library.specs.declared.kind.BlockKind.{BlockKind}
use Rattle.block_library.specs.declared.kind.BlockKind.TheVariants.{Tx, Rx, Fifo, Split, Keep, Repeat, Replay, Switch, Sink}
use Rattle.net_machine.specs.declared.event.Event.{Event}
use Rattle.net_machine.specs.declared.plan.RunPlan.{RunPlan}
use Rattle.net_machine.specs.Choice.{IsChosen}
use Rattle.net_machine.specs.Moves.{IsWhole, after_journal, moves_of}
use Rattle.net_machine.specs.Plans.{block_at, is_rx}
use Rattle.net_machine.specs.State.{State}
use Rattle.net_machine.specs.Tallies.{end_of, line_at, taken_by, tally_over}
use Rattle.run_books.specs.declared.book.RunBook.{RunBook}

abbrev pub is_sink : BlockKind → Bool
is_sink Tx = false
is_sink Rx = false
is_sink Fifo = false
is_sink Split = false
is_sink (Keep n) = false
is_sink (Repeat n) = false
is_sink (Replay n) = false
is_sink (Switch n) = false
is_sink Sink = true

-- the blocks of a plan whose kind passes a test, in order
abbrev pub blocks_of : (BlockKind → Bool) → RunPlan → List ℕ
blocks_of test plan = filter (λ b. test (block_at plan b).kind) (range_with_len 0 (length plan.blocks))

-- what is made of each stream of a plan, in order
abbrev pub each_stream : {A : Type 0} → (ℕ → A) → RunPlan → List A
each_stream tell plan = map tell (range_with_len 0 (length plan.streams))

-- The book tells of the state that its journal leaves how each stream stands, what it did from the first state on, what each
-- Rx took, and the line of each Rx and sink.
pub record TellsOf (opened : State) (book : RunBook) : Type 0 where
  pub ends : book.ends ≡ each_stream (end_of (after_journal opened book.journal)) opened.plan
  pub tallies : book.tallies ≡ each_stream (tally_over opened (moves_of book.journal)) opened.plan
  pub taken : book.taken ≡ map (taken_by (after_journal opened book.journal)) (blocks_of is_rx opened.plan)
  pub lines : book.lines ≡ map (line_at (after_journal opened book.journal)) (blocks_of (λ kind. is_rx kind || is_sink kind) opened.plan)

-- this is the book of a run: its journal is legal and whole
pub record IsBookOf (opened : State) (book : RunBook) : Type 0 where
  pub whole : IsWhole opened book.journal
  pub tells : TellsOf opened book

-- this is the book of the run that one thread takes with a seed
pub record IsChosenBook (seed : ℕ) (opened : State) (book : RunBook) : Type 0 where
  pub chosen : IsChosen seed opened book.journal
  pub tells : TellsOf opened book
