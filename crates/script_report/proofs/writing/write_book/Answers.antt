use Rattle.std.proofs.Common.{◌≡◌, ◌<◌, ◌≤◌, ℕ, List, [], length, get_or, refl, sym, subst, Some, None}
use Rattle.std.proofs.lemmas.Option.{slice_get_past, slice_get_read}
use Rattle.std.specs.Prelude.{OnOk, OnErr, slice_get}
use Rattle.script_lines.specs.Lines.{line_at}
use Rattle.script_report.specs.Prints.{Printed, PrintedPart}
use Rattle.script_report.specs.Report.{book_lines, lines_of}
use Rattle.script_report.proofs.PrintLemmas.{printed_none}
use Rattle.script_report.proofs.writing.write_book.Goals as goal

pub returns-in_default-clause-whole : goal.returns-in_default-clause-whole
returns-in_default-clause-whole g c =
    let past : length c.args.books.now ≤ c.args.number = rw c.in_default.is at c.get.ensures.lookup.3 in
    let none : line_at (book_lines c.args.commands.now c.args.books.now) c.args.books.now c.args.number ≡ [] =
    rw (slice_get_past c.args.books.now c.args.number past) refl in
    subst (λ (text : List ℕ). Printed (g.K.Sink.written c.args.out.now) (g.K.Sink.written c.args.out.now) c.args.page.now c.args.page.now text)
    (sym none) (printed_none (g.K.Sink.written c.args.out.now) c.args.page.now)

pub returns-in_default-get-clause-whole : goal.returns-in_default-get-clause-whole
returns-in_default-get-clause-whole g c =
    let there : c.args.number < length c.args.books.now = c.in-Some.ensures.lookup.3.0 in
    let book_at : slice_get c.args.books.now c.args.number ≡ Some c.in-Some.book.now =
    slice_get_read c.args.books.now (length c.args.books.now) c.args.number c.in-Some.book.now refl there c.in-Some.ensures.lookup.1 in
    let past : length c.args.commands.now ≤ c.args.number = rw c.in_default-get.is at c.get-2.ensures.lookup.3 in
    let none : line_at (book_lines c.args.commands.now c.args.books.now) c.args.books.now c.args.number ≡ [] =
    rw (book_at, slice_get_past c.args.commands.now c.args.number past) refl in
    subst (λ (text : List ℕ). Printed (g.K.Sink.written c.args.out.now) (g.K.Sink.written c.args.out.now) c.args.page.now c.args.page.now text)
    (sym none) (printed_none (g.K.Sink.written c.args.out.now) c.args.page.now)

pub returns-clause-whole : goal.returns-clause-whole
returns-clause-whole g c =
    let there : c.args.number < length c.args.books.now = c.in-Some.ensures.lookup.3.0 in
    let book_at : slice_get c.args.books.now c.args.number ≡ Some c.in-Some.book.now =
    slice_get_read c.args.books.now (length c.args.books.now) c.args.number c.in-Some.book.now refl there c.in-Some.ensures.lookup.1 in
    let here : c.args.number < length c.args.commands.now = c.in-Some-get.ensures.lookup.3.0 in
    let command_at : slice_get c.args.commands.now c.args.number ≡ Some c.in-Some-get.command.now =
    slice_get_read c.args.commands.now (length c.args.commands.now) c.args.number c.in-Some-get.command.now refl here c.in-Some-get.ensures.lookup.1 in
    let some : line_at (book_lines c.args.commands.now c.args.books.now) c.args.books.now c.args.number
    ≡ lines_of c.args.commands.now c.args.books.now c.args.number c.in-Some-get.command.now c.in-Some.book.now = rw (book_at, command_at) refl in
    subst (λ (text : List ℕ). OnOk c.write_command.result
    (Printed (g.K.Sink.written c.args.out.now) (g.K.Sink.written c.write_command.new.out) c.args.page.now c.write_command.new.page text))
    (sym some) c.write_command.ensures.whole

pub returns-clause-prefix : goal.returns-clause-prefix
returns-clause-prefix g c =
    let there : c.args.number < length c.args.books.now = c.in-Some.ensures.lookup.3.0 in
    let book_at : slice_get c.args.books.now c.args.number ≡ Some c.in-Some.book.now =
    slice_get_read c.args.books.now (length c.args.books.now) c.args.number c.in-Some.book.now refl there c.in-Some.ensures.lookup.1 in
    let here : c.args.number < length c.args.commands.now = c.in-Some-get.ensures.lookup.3.0 in
    let command_at : slice_get c.args.commands.now c.args.number ≡ Some c.in-Some-get.command.now =
    slice_get_read c.args.commands.now (length c.args.commands.now) c.args.number c.in-Some-get.command.now refl here c.in-Some-get.ensures.lookup.1 in
    let some : line_at (book_lines c.args.commands.now c.args.books.now) c.args.books.now c.args.number
    ≡ lines_of c.args.commands.now c.args.books.now c.args.number c.in-Some-get.command.now c.in-Some.book.now = rw (book_at, command_at) refl in
    subst (λ (text : List ℕ). OnErr c.write_command.result
    (PrintedPart (g.K.Sink.written c.args.out.now) (g.K.Sink.written c.write_command.new.out) c.args.page.now text))
    (sym some) c.write_command.ensures.prefix
