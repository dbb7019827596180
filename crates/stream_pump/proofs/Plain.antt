-- The book of a run in which nothing was lost: the plan tells it.
use Rattle.std.proofs.Common.{◌≡◌, ℕ, ◌<◌, List, [], length, map, refl, ap, arith, ◌∙◌}
use Rattle.std.specs.Prelude.{Option, None, Some, slice_get}
use Rattle.std.specs.List.{range_with_len}
use Rattle.std.specs.Option.{option_and_then, option_map_or}
use Rattle.stream_endpoint.specs.Counts.{none}
use Rattle.block_library.specs.Lines.{line_of}
use Rattle.net_machine.specs.declared.plan.RunPlan.{RunPlan}
use Rattle.net_machine.specs.declared.tally.StreamEnd.TheVariants.{Drained}
use Rattle.net_machine.specs.declared.tally.Tally.{Tally}
use Rattle.net_machine.specs.Begin.{begun}
use Rattle.net_machine.specs.Moves.{after_journal, moves_of}
use Rattle.net_machine.specs.Plain.{plain}
use Rattle.net_machine.specs.Plans.{block_at, is_rx, stream_into, is_to, no_stream, stream_to}
use Rattle.net_machine.specs.State.{State, stream_at}
use Rattle.net_machine.specs.Tallies.{end_of, line_at, tally_over, taken_by}
use Rattle.net_ends.specs.Complete.{plain_at, plain_tally}
use Rattle.net_runs.specs.Runs.{IsPlainRun, IsRunOf}
use Rattle.net_runs.proofs.Laws.{nothing_named_nothing_lost, resynchronising_runs_drain, whole_runs_end_plain}
use Rattle.run_books.specs.declared.book.RunBook.{RunBook}
use Rattle.run_books.specs.Books.{IsBookOf, blocks_of}
use Rattle.stream_pump.specs.PlainBooks.{BooksLoseOnlyWhatIsNamed, BooksWithoutLossesArePlain, ResynchronisingBooksDrain, without_peaks}
use Rattle.stream_pump.specs.Running.{CanRun}
use Rattle.stream_pump.specs.Telling.{has_line}
use Rattle.std.proofs.lemmas.List.Quantifiers.{position-Some}
use Rattle.chdr_words.specs.declared.epid.Epid.{Epid}
use Rattle.net_machine.specs.Streams.{taken_of}
use Rattle.stream_pump.proofs.Rows.{same-map, same-row, twice-map}
use Rattle.stream_pump.proofs.Books.{plan-after, streams-after}

run-of : (plan : RunPlan) (w : State) (book : RunBook) → CanRun plan w → IsBookOf (begun plan w) book
    → IsRunOf plan w book.journal (after_journal (begun plan w) book.journal)
run-of plan w book can is = record { lawful = can.lawful; rest = can.rest; can = can.can; whole = is.whole; leaves = refl }

-- a stream that ends at an EPID is there
to-there : (plan : RunPlan) (o : Option Epid) (s : ℕ) → option_and_then (stream_to plan) o ≡ Some s → s < length plan.streams
to-there plan None s is = absurd cc
to-there plan (Some epid) s is = (position-Some (is_to epid) plan.streams s no_stream is).0

plain-taken : (plan : RunPlan) (end : State) → end.plan ≡ plan → length end.streams ≡ length plan.streams → IsPlainRun plan end
    → (o : Option ℕ) → ((s : ℕ) → o ≡ Some s → s < length plan.streams)
    → option_map_or (λ s. taken_of (stream_at end s)) o [] ≡ option_map_or (plain plan) o []
plain-taken plan end same many is None there = refl
plain-taken plan end same many is (Some s) there =
    let lt = there s refl in
    (is.streams s (omega (arith, lt, many))).taken ∙ ap (λ (r : RunPlan). plain r s) same

into-there : (plan : RunPlan) (b s : ℕ) → stream_into plan (block_at plan b) 0 ≡ Some s → s < length plan.streams
into-there plan b s is = to-there plan (slice_get (block_at plan b).ins 0) s is

pub plain-book : BooksWithoutLossesArePlain
plain-book plan w book can is lost = record {
  ends = is.tells.ends
      ∙ same-row (end_of end) (λ s. Drained) 0 (length plan.streams) (λ s low lt. (run.streams s (omega (arith, lt, many))).end);
  tallies = ap (λ (ts : List Tally). map without_peaks ts) is.tells.tallies
      ∙ twice-map (tally_over (begun plan w) (moves_of book.journal)) without_peaks (range_with_len 0 (length plan.streams))
      ∙ same-row (λ s. without_peaks (tally_over (begun plan w) (moves_of book.journal) s)) (λ s. plain_tally (length (plain plan s)) none) 0 (length plan.streams)
      (λ s low lt. (run.streams s (omega (arith, lt, many))).tally none ∙ ap (λ (r : RunPlan). plain_tally (length (plain r s)) none) same);
  taken = is.tells.taken ∙ same-map (taken_by end) (plain_at plan) taken (blocks_of is_rx plan);
  lines = is.tells.lines
      ∙ same-map (line_at end) (λ b. line_of b (block_at plan b).item (plain_at plan b))
      (λ b. run.lines b ∙ ap (λ (r : RunPlan). line_of b (block_at r b).item (plain_at r b)) same)
      (blocks_of has_line plan);
}
  where
    end : State
    end = after_journal (begun plan w) book.journal

    run : IsPlainRun plan (after_journal (begun plan w) book.journal)
    run = whole_runs_end_plain plan w book.journal (after_journal (begun plan w) book.journal) (run-of plan w book can is) lost

    same : (after_journal (begun plan w) book.journal).plan ≡ plan
    same = plan-after plan w book.journal

    many : length (after_journal (begun plan w) book.journal).streams ≡ length plan.streams
    many = streams-after plan w book.journal

    taken : (b : ℕ) → taken_by (after_journal (begun plan w) book.journal) b ≡ plain_at plan b
    taken b =
        ap (λ (r : RunPlan). option_map_or (λ s. taken_of (stream_at (after_journal (begun plan w) book.journal) s)) (stream_into r (block_at r b) 0) []) same
        ∙ plain-taken plan (after_journal (begun plan w) book.journal) same many run (stream_into plan (block_at plan b) 0) (into-there plan b)

pub named-alone : BooksLoseOnlyWhatIsNamed
named-alone plan w book can is none = nothing_named_nothing_lost plan w book.journal can.rest none is.whole.legal

pub resynchronising : ResynchronisingBooksDrain
resynchronising plan w book can is autos =
    is.tells.ends
    ∙ same-row (end_of (after_journal (begun plan w) book.journal)) (λ s. Drained) 0 (length plan.streams)
    (λ s low lt. resynchronising_runs_drain plan w book.journal (after_journal (begun plan w) book.journal) (run-of plan w book can is) autos s
    (let many = streams-after plan w book.journal in omega (arith, lt, many)))
