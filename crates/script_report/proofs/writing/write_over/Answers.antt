use Rattle.script_report.specs.Report.{books_text}
use Rattle.script_report.proofs.PrintLemmas.{out_err, out_ok}
use Rattle.script_report.proofs.writing.write_over.Goals as goal

pub returns-clause-whole : goal.returns-clause-whole
returns-clause-whole g c =
    out_ok c.write_all_books.result (g.K.Sink.written c.args.out.now) (g.K.Sink.written c.write_all_books.new.out) c.args.page.now c.write_all_books.new.page (books_text c.args.commands.now c.args.books.now) c.requires c.write_all_books.ensures.whole c.write_all_books.ensures.empty

pub returns-clause-prefix : goal.returns-clause-prefix
returns-clause-prefix g c =
    out_err c.write_all_books.result (g.K.Sink.written c.args.out.now) (g.K.Sink.written c.write_all_books.new.out) c.args.page.now (books_text c.args.commands.now c.args.books.now) c.requires c.write_all_books.ensures.prefix
