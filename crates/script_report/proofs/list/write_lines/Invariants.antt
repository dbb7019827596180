use Rattle.std.proofs.Common.{◌≤◌}
use Rattle.script_report.specs.Prints.{Printed}
use Rattle.script_lines.specs.Lines.{each}
use Rattle.script_report.proofs.list.write_lines.Given as goal

-- the first lines were written but for what is left on the page, and the count didn't fall
abbrev pub invariant-loop-place : goal.invariant-loop-place
invariant-loop-place g l = record {
  text : Printed (g.K.Sink.written l.initial.out) (g.K.Sink.written l.out) l.initial.page l.page (each (g.L.LineList.line l.list) l.place);
  later : g.K.Sink.faults l.initial.out ≤ g.K.Sink.faults l.out;
}
