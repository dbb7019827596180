use Rattle.script_lines.specs.CommandLines.{done_line}
use Rattle.script_lines.specs.Lines.{numbered}
use Rattle.script_report.specs.Report.{book_lines}
use Rattle.script_report.proofs.PrintLemmas.{on_err, part_more, then_err, then_ok}
use Rattle.script_report.proofs.writing.write_all_books.Goals as goal

pub returns-in_err-write_books-clause-prefix : goal.returns-in_err-write_books-clause-prefix
returns-in_err-write_books-clause-prefix g c =
    on_err c.from_residual.result _
    (part_more (g.K.Sink.written c.args.out.now) (g.K.Sink.written c.write_books.new.out) c.args.page.now (numbered (book_lines c.args.commands.now c.args.books.now) c.args.books.now) (done_line c.args.books.now) c.in_err-write_books.ensures.prefix)

pub returns-clause-whole : goal.returns-clause-whole
returns-clause-whole g c =
    then_ok c.write_done.result (g.K.Sink.written c.args.out.now) (g.K.Sink.written c.write_books.new.out) (g.K.Sink.written c.write_done.new.out) c.args.page.now c.write_books.new.page c.write_done.new.page (numbered (book_lines c.args.commands.now c.args.books.now) c.args.books.now) (done_line c.args.books.now) c.in_ok-write_books.ensures.whole
    c.write_done.ensures.whole

pub returns-clause-prefix : goal.returns-clause-prefix
returns-clause-prefix g c =
    then_err c.write_done.result (g.K.Sink.written c.args.out.now) (g.K.Sink.written c.write_books.new.out) (g.K.Sink.written c.write_done.new.out) c.args.page.now c.write_books.new.page (numbered (book_lines c.args.commands.now c.args.books.now) c.args.books.now) (done_line c.args.books.now) c.in_ok-write_books.ensures.whole
    c.write_done.ensures.prefix
