-- The report: a line for each command, with the lines of what it found or ran under it, and the last line.
use Rattle.std.specs.Prelude.{ℕ, codes, Bool, List, [], if◌then◌else◌, slice_get}
use Rattle.graph_core.specs.declared.place.Side.TheVariants.{Into, Out}
use Rattle.rf_script_types.specs.declared.act.Act.{Act}
use Rattle.rf_script_types.specs.declared.command.Script.{Script}
use Rattle.rf_script_types.specs.declared.command.ScriptCommand.{ScriptCommand}
use Rattle.block_library.specs.declared.line.Line.{Line}
use Rattle.net_machine.specs.declared.tally.Tally.{Tally}
use Rattle.net_machine.specs.declared.tally.StreamEnd.{StreamEnd}
use Rattle.script_books.specs.declared.book.Book.{Book}
use Rattle.script_books.specs.declared.book.Book.TheVariants as book
use Rattle.script_books.specs.declared.book.Books.{Books}
use Rattle.script_books.specs.declared.book.DuplexBook.{DuplexBook}
use Rattle.run_books.specs.declared.book.RunBook.{RunBook}
use Rattle.script_books.specs.declared.book.ActAnswer.{ActAnswer}
use Rattle.script_books.specs.Commands.{acts_of, is_peaked, is_traced}
use Rattle.script_books.specs.Made.{kind_at, end_at}
use Rattle.script_lines.specs.CommandLines.{command_line, done_line}
use Rattle.script_lines.specs.Lines.{numbered, node_line, event_line, stream_line, sink_line, peak_line, act_line}
use Rattle.script_lines.specs.Names.{some_text}
use Rattle.script_lines.specs.Page.{◌&◌}

-- ---- the lines under a command's own

-- the list, where it is told
abbrev pub told : {X : Type 0} → Bool → List X → List X
told b xs = if b then xs else []

-- the line of a stream, if it has a tally
abbrev pub stream_at : List ScriptCommand → List Book → ℕ → List Tally → ℕ → StreamEnd → List ℕ
stream_at cs bs k tallies s end = some_text (stream_line s (end_at cs bs k Out s) (end_at cs bs k Into s) end) (slice_get tallies s)

-- the line of an rx or sink block
abbrev pub sink_at : List ScriptCommand → List Book → ℕ → Line → List ℕ
sink_at cs bs k line = sink_line (kind_at cs bs k line.block) line

-- the events of a run, where they are told
abbrev pub events_text : ScriptCommand → RunBook → List ℕ
events_text c run = numbered (λ _ event. event_line event) (told (is_traced c) run.journal)

abbrev pub streams_text : List ScriptCommand → List Book → ℕ → RunBook → List ℕ
streams_text cs bs k run = numbered (stream_at cs bs k run.tallies) run.ends

abbrev pub sinks_text : List ScriptCommand → List Book → ℕ → RunBook → List ℕ
sinks_text cs bs k run = numbered (λ _ line. sink_at cs bs k line) run.lines

-- the peaks of a run, where they are told
abbrev pub peaks_text : ScriptCommand → RunBook → List ℕ
peaks_text c run = numbered peak_line (told (is_peaked c) run.tallies)

-- the lines of a run: its events, its streams, its sinks and its peaks
abbrev pub run_lines : List ScriptCommand → List Book → ℕ → ScriptCommand → RunBook → List ℕ
run_lines cs bs k c run = events_text c run & streams_text cs bs k run & sinks_text cs bs k run & peaks_text c run

-- the line of an act, if it has an answer
abbrev pub act_at : List ActAnswer → ℕ → Act → List ℕ
act_at answers k act = some_text (act_line k act) (slice_get answers k)

abbrev pub acts_text : ScriptCommand → DuplexBook → List ℕ
acts_text c duplex = numbered (act_at duplex.answers) (acts_of c)

-- the lines of a duplex: those of its run, and its acts
abbrev pub duplex_lines : List ScriptCommand → List Book → ℕ → ScriptCommand → DuplexBook → List ℕ
duplex_lines cs bs k c duplex = run_lines cs bs k c duplex.run & acts_text c duplex

abbrev pub lines_under : List ScriptCommand → List Book → ℕ → ScriptCommand → Book → List ℕ
lines_under cs bs k c (book.Discover found) = numbered node_line found.nodes
lines_under cs bs k c (book.Run run) = run_lines cs bs k c run
lines_under cs bs k c (book.Twin twin) = run_lines cs bs k c twin.run
lines_under cs bs k c (book.Duplex duplex) = duplex_lines cs bs k c duplex
lines_under cs bs k c _ = codes ""

-- ---- the whole

-- a command's line, and the lines under it
abbrev pub lines_of : List ScriptCommand → List Book → ℕ → ScriptCommand → Book → List ℕ
lines_of cs bs k c b = command_line k c b & lines_under cs bs k c b

-- the lines of the book at a place, if it has a command
abbrev pub book_lines : List ScriptCommand → List Book → ℕ → Book → List ℕ
book_lines cs bs k b = some_text (λ c. lines_of cs bs k c b) (slice_get cs k)

-- the lines of all books, and the last line
abbrev pub books_text : List ScriptCommand → List Book → List ℕ
books_text cs bs = numbered (book_lines cs bs) bs & done_line bs

-- the text that tells a script's books
abbrev pub report_of : Script → Books → List ℕ
report_of script books = books_text script.commands books.list
