use Rattle.std.proofs.Common.{◌++◌}
use Rattle.std.specs.Prelude.{codes}
use Rattle.script_lines.specs.CommandLines.{command_line}
use Rattle.script_report.specs.Report.{lines_under}
use Rattle.script_report.proofs.PrintLemmas.{fails, printed_room, then_err, then_ok}
use Rattle.script_report.proofs.writing.write_command.Goals as goal

pub returns-in_err-make_room-clause-prefix : goal.returns-in_err-make_room-clause-prefix
returns-in_err-make_room-clause-prefix g c =
    fails c.from_residual.result (g.K.Sink.written c.args.out.now) (g.K.Sink.written c.make_room.new.out) c.args.page.now (codes "") ((command_line c.args.context.number c.args.command.now c.args.book.now) ++ (lines_under c.args.context.commands.now c.args.context.books.now c.args.context.number c.args.command.now c.args.book.now)) c.in_err-make_room.ensures.prefix

pub returns-clause-whole : goal.returns-clause-whole
returns-clause-whole g c =
    then_ok c.write_under.result (g.K.Sink.written c.args.out.now) (g.K.Sink.written c.make_room.new.out) (g.K.Sink.written c.write_under.new.out) c.args.page.now c.put_command.new.page c.write_under.new.page (command_line c.args.context.number c.args.command.now c.args.book.now) (lines_under c.args.context.commands.now c.args.context.books.now c.args.context.number c.args.command.now c.args.book.now)
    (printed_room (g.K.Sink.written c.args.out.now) (g.K.Sink.written c.make_room.new.out) c.args.page.now c.make_room.new.page c.put_command.new.page (command_line c.args.context.number c.args.command.now c.args.book.now) c.in_ok-make_room.ensures.whole c.put_command.ensures) c.write_under.ensures.whole

pub returns-clause-prefix : goal.returns-clause-prefix
returns-clause-prefix g c =
    then_err c.write_under.result (g.K.Sink.written c.args.out.now) (g.K.Sink.written c.make_room.new.out) (g.K.Sink.written c.write_under.new.out) c.args.page.now c.put_command.new.page (command_line c.args.context.number c.args.command.now c.args.book.now) (lines_under c.args.context.commands.now c.args.context.books.now c.args.context.number c.args.command.now c.args.book.now)
    (printed_room (g.K.Sink.written c.args.out.now) (g.K.Sink.written c.make_room.new.out) c.args.page.now c.make_room.new.page c.put_command.new.page (command_line c.args.context.number c.args.command.now c.args.book.now) c.in_ok-make_room.ensures.whole c.put_command.ensures) c.write_under.ensures.prefix
