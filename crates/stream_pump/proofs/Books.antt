-- The book of a run: what a net tells at its end is what the run's journal decides.
use Rattle.std.proofs.Common.{◌≡◌, ℕ, ◌<◌, ◌≤◌, List, length, map, ap, arith, ◌∙◌, ◌⊎◌, inl, inr}
use Rattle.std.specs.List.{range_with_len}
use Rattle.net_machine.specs.declared.plan.RunPlan.{RunPlan}
use Rattle.net_machine.specs.declared.event.Event.{Event}
use Rattle.net_machine.specs.Begin.{begun, opened}
use Rattle.net_machine.specs.Choice.{IsChosen}
use Rattle.net_machine.specs.Laws.{HasFewInputs}
use Rattle.net_machine.specs.Moves.{IsAtRest, IsWhole, after_journal, moves_of}
use Rattle.net_machine.specs.Plans.{block_at, is_rx, no_block}
use Rattle.net_machine.specs.State.{State}
use Rattle.net_machine.specs.Tallies.{end_of, line_at, tally_of, tally_over, taken_by}
use Rattle.net_machine.proofs.Laws.{chosen_is_whole, shapes_stay}
use Rattle.net_promises.proofs.Laws.{tallies_are_kept}
use Rattle.net_rest.proofs.Laws.{runs_rest}
use Rattle.run_books.specs.declared.book.RunBook.{RunBook}
use Rattle.run_books.specs.Books.{TellsOf, blocks_of, each_stream}
use Rattle.stream_pump.specs.PlainBooks.{ChosenBooksAreBooks}
use Rattle.stream_pump.specs.Running.{CanRun}
use Rattle.stream_pump.specs.Telling.{TellsNow, has_line}
use Rattle.stream_pump.specs.WholeRuns.{WholeRunsHaveBooks}
use Rattle.net_machine.specs.declared.plan.BlockPlan.{BlockPlan}
use Rattle.std.proofs.lemmas.Bool.{cases_lt}
use Rattle.std.proofs.lemmas.List.{get_or_past, length-map}
use Rattle.block_library.specs.Blocks.{inputs}
use Rattle.block_library.specs.declared.kind.BlockKind.{BlockKind}
use Rattle.block_library.specs.declared.kind.BlockKind.TheVariants.{Tx, Rx, Fifo, Split, Keep, Repeat, Replay, Switch, Sink}
use Rattle.stream_pump.proofs.Rows.{same-map}

-- ---- a run of a plan is whole

two-inputs : (kind : BlockKind) → inputs kind ≤ 2
two-inputs Tx = omega arith
two-inputs Rx = omega arith
two-inputs Fifo = omega arith
two-inputs Split = omega arith
two-inputs (Keep n) = omega arith
two-inputs (Repeat n) = omega arith
two-inputs (Replay n) = omega arith
two-inputs (Switch n) = omega arith
two-inputs Sink = omega arith

few-inputs : (plan : RunPlan) (w : State) → CanRun plan w → HasFewInputs plan
few-inputs plan w can b = by (cases_lt b (length plan.blocks))
  where
    by : (b < length plan.blocks) ⊎ (length plan.blocks ≤ b) → length (block_at plan b).ins ≤ 2
    by (inl lt) = let few = two-inputs (block_at plan b).kind in let same = (can.can.fits.blocks b lt).inputs in omega (arith, few, same)
    by (inr past) = let none = ap (λ (block : BlockPlan). length block.ins) (get_or_past plan.blocks b no_block past) in omega (arith, none)

pub whole-run : (seed : ℕ) (plan : RunPlan) (w : State) (journal : List Event) → CanRun plan w → IsChosen seed (begun plan w) journal
    → IsWhole (begun plan w) journal
whole-run seed plan w journal can chosen = chosen_is_whole seed (begun plan w) journal (few-inputs plan w can) chosen

pub rest-after : (plan : RunPlan) (w : State) (journal : List Event) → CanRun plan w → IsWhole (begun plan w) journal
    → IsAtRest (after_journal (begun plan w) journal)
rest-after plan w journal can whole = (runs_rest plan w journal can.lawful can.rest can.can whole).rest

-- ---- what a net tells

pub plan-after : (plan : RunPlan) (w : State) (journal : List Event) → (after_journal (begun plan w) journal).plan ≡ plan
plan-after plan w journal = (shapes_stay (begun plan w) (moves_of journal)).plan

pub streams-after : (plan : RunPlan) (w : State) (journal : List Event) → length (after_journal (begun plan w) journal).streams ≡ length plan.streams
streams-after plan w journal = (shapes_stay (begun plan w) (moves_of journal)).streams ∙ length-map plan.streams (opened plan)

pub tells-of : (plan : RunPlan) (w : State) (book : RunBook) → CanRun plan w → IsWhole (begun plan w) book.journal
    → TellsNow (after_journal (begun plan w) book.journal) book → TellsOf (begun plan w) book
tells-of plan w book can whole tells = record {
  ends = tells.ends ∙ ap (λ (r : RunPlan). each_stream (end_of end) r) same;
  tallies = tells.tallies ∙ ap (λ (r : RunPlan). each_stream (tally_of end) r) same
      ∙ same-map (tally_of end) (tally_over (begun plan w) (moves_of book.journal))
      (λ s. tallies_are_kept plan w (moves_of book.journal) s can.lawful can.rest can.can whole.legal)
      (range_with_len 0 (length plan.streams));
  taken = tells.taken ∙ ap (λ (r : RunPlan). map (taken_by end) (blocks_of is_rx r)) same;
  lines = tells.lines ∙ ap (λ (r : RunPlan). map (line_at end) (blocks_of has_line r)) same;
}
  where
    end : State
    end = after_journal (begun plan w) book.journal

    same : (after_journal (begun plan w) book.journal).plan ≡ plan
    same = plan-after plan w book.journal

pub chosen-book : ChosenBooksAreBooks
chosen-book seed plan w book can is = record { whole = whole-run seed plan w book.journal can is.chosen; tells = is.tells }

pub whole-book : WholeRunsHaveBooks
whole-book plan w book can whole tells = record { whole = whole; tells = tells-of plan w book can whole tells }
