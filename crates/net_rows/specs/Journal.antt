-- Three packets of two samples from host 1 over a crossbar to host 2: the events of one thread.
use Rattle.std.specs.Prelude.{◌≡◌, List, [], ◌∷◌}
use Rattle.chdr_words.specs.declared.command.CmdOp.TheVariants.{Init, Ping}
use Rattle.stream_endpoint.specs.Counts.{count}
use Rattle.stream_endpoint.specs.declared.flow.Policy.TheVariants.{Auto}
use Rattle.net_machine.specs.declared.event.Event.{Event}
use Rattle.net_machine.specs.declared.event.Event.TheVariants.{Enter, Hop, Seen, Report, Command}
use Rattle.net_machine.specs.declared.tally.StreamEnd.TheVariants.{Drained}
use Rattle.net_machine.specs.Choice.{IsChosen}
use Rattle.net_machine.specs.Moves.{after_journal, moves_of}
use Rattle.net_machine.specs.State.{State, stream_at}
use Rattle.net_machine.specs.Tallies.{line_at, peak_over}
use Rattle.net_rows.specs.Networks.{Ended, begun_on_line, line_is, one_stream, stream, usual}

abbrev pub opening : State
opening = begun_on_line (one_stream (stream usual 0 Auto) 3 2 [])

abbrev pub journal : List Event
journal = Command 0 Init ∷ Hop 0 ∷ Hop 4 ∷ Report 0 ∷ Hop 7 ∷ Hop 3
    ∷ Enter 0 ∷ Enter 0 ∷ Enter 0 ∷ Hop 0 ∷ Hop 0 ∷ Hop 0
    ∷ Hop 4 ∷ Seen 0 1 ∷ Hop 4 ∷ Seen 0 2 ∷ Hop 4 ∷ Seen 0 3
    ∷ Command 0 Ping ∷ Hop 0 ∷ Hop 4 ∷ Report 0 ∷ Hop 7 ∷ Hop 3 ∷ []

pub record IsJournal : Type 0 where
  pub chosen : IsChosen 0 opening journal
  pub ended : Ended (after_journal opening journal) 0 Drained 3 3 3 1
  pub line : line_at (after_journal opening journal) 1 ≡ line_is 1 3 6 0 5
  -- all three packets of 16 bytes were outstanding at once
  pub peak : peak_over 0 opening (moves_of journal) ≡ count 3 48
  pub kept_peak : (stream_at (after_journal opening journal) 0).peak ≡ count 3 48
