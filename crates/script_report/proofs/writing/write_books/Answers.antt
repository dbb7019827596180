use Rattle.std.proofs.Common.{arith, length}
use Rattle.script_lines.specs.Lines.{line_at}
use Rattle.script_report.specs.Report.{book_lines}
use Rattle.script_report.proofs.PrintLemmas.{on_err, part_next, printed_line, printed_start}
use Rattle.script_report.proofs.writing.write_books.Goals as goal

pub loop-number-init : goal.loop-number-init
loop-number-init g c =
    record {
      text = printed_start (g.K.Sink.written c.args.out.now) c.args.page.now (line_at (book_lines c.args.commands.now c.args.books.now) c.args.books.now);
      later = omega arith;
    }

pub returns-in_err-write_book-clause-prefix : goal.returns-in_err-write_book-clause-prefix
returns-in_err-write_book-clause-prefix g c =
    on_err c.from_residual.result _
    (part_next (g.K.Sink.written c.args.out.now) (g.K.Sink.written c.loop-number.out) (g.K.Sink.written c.write_book.new.out) c.args.page.now c.loop-number.page (line_at (book_lines c.args.commands.now c.args.books.now) c.args.books.now) c.loop-number.number (length c.args.books.now) (omega arith) c.loop-number.invariant.text c.in_err-write_book.ensures.prefix)

pub loop-number-preserved : goal.loop-number-preserved
loop-number-preserved g c =
    record {
      text = printed_line (g.K.Sink.written c.args.out.now) (g.K.Sink.written c.loop-number.out) (g.K.Sink.written c.write_book.new.out) c.args.page.now c.loop-number.page c.write_book.new.page (line_at (book_lines c.args.commands.now c.args.books.now) c.args.books.now) c.loop-number.number c.loop-number.invariant.text c.in_ok-write_book.ensures.whole;
      later = omega (arith, c.in_ok-write_book.ensures.cause.later);
    }
