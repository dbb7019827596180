use Rattle.std.proofs.Common.{◌≤◌}
use Rattle.script_lines.specs.Lines.{each, line_at}
use Rattle.script_report.specs.Prints.{Printed}
use Rattle.script_report.specs.Report.{book_lines}
use Rattle.script_report.proofs.writing.write_books.Given as goal

-- the lines of the first books were printed, and the count didn't fall
abbrev pub invariant-loop-number : goal.invariant-loop-number
invariant-loop-number g l = record {
  text : Printed (g.K.Sink.written l.initial.out) (g.K.Sink.written l.out) l.initial.page l.page (each (line_at (book_lines l.commands l.books) l.books) l.number);
  later : g.K.Sink.faults l.initial.out ≤ g.K.Sink.faults l.out;
}
