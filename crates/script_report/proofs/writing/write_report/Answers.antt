use Rattle.std.proofs.Common.{ℕ, List, ap, ◌∙◌, subst}
use Rattle.rf_outside.specs.Bytes.{AddsPrefix}
use Rattle.rf_script_types.specs.declared.command.ScriptCommand.{ScriptCommand}
use Rattle.script_books.specs.declared.book.Book.{Book}
use Rattle.script_report.specs.Report.{books_text}
use Rattle.script_report.proofs.writing.write_report.Goals as goal

pub returns-clause-prefix : goal.returns-clause-prefix
returns-clause-prefix g c = λ _. subst (λ (text : List ℕ). AddsPrefix (g.K.Sink.written c.args.out.now) (g.K.Sink.written c.write_over.new.out) text)
    (ap (λ (commands : List ScriptCommand). books_text commands c.as_slice.result.now) c.as_slice-commands.ensures
    ∙ ap (λ (books : List Book). books_text c.args.script.now.commands books) c.as_slice.ensures)
    c.in-Err-write_over.ensures.prefix
