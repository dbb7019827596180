use Rattle.std.specs.Prelude.{codes}
use Rattle.script_lines.specs.CommandLines.{done_line}
use Rattle.script_report.proofs.PrintLemmas.{ends_err, ends_ok, fails, printed_room}
use Rattle.script_report.proofs.writing.write_done.Goals as goal

pub returns-in_err-make_room-clause-prefix : goal.returns-in_err-make_room-clause-prefix
returns-in_err-make_room-clause-prefix g c =
    fails c.from_residual.result (g.K.Sink.written c.args.out.now) (g.K.Sink.written c.make_room.new.out) c.args.page.now (codes "") (done_line c.args.books.now) c.in_err-make_room.ensures.prefix

pub returns-clause-whole : goal.returns-clause-whole
returns-clause-whole g c =
    ends_ok c.flush.result (g.K.Sink.written c.args.out.now) (g.K.Sink.written c.make_room.new.out) (g.K.Sink.written c.flush.new.out) c.args.page.now c.put_done.new.page c.flush.new.page (done_line c.args.books.now)
    (printed_room (g.K.Sink.written c.args.out.now) (g.K.Sink.written c.make_room.new.out) c.args.page.now c.make_room.new.page c.put_done.new.page (done_line c.args.books.now) c.in_ok-make_room.ensures.whole c.put_done.ensures) c.flush.ensures.whole

pub returns-clause-prefix : goal.returns-clause-prefix
returns-clause-prefix g c =
    ends_err c.flush.result (g.K.Sink.written c.args.out.now) (g.K.Sink.written c.make_room.new.out) (g.K.Sink.written c.flush.new.out) c.args.page.now c.put_done.new.page (done_line c.args.books.now)
    (printed_room (g.K.Sink.written c.args.out.now) (g.K.Sink.written c.make_room.new.out) c.args.page.now c.make_room.new.page c.put_done.new.page (done_line c.args.books.now) c.in_ok-make_room.ensures.whole c.put_done.ensures) c.flush.ensures.prefix
