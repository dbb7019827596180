use Rattle.script_report.specs.Report.{acts_text, run_lines}
use Rattle.script_report.proofs.PrintLemmas.{on_err, part_more, then_err, then_ok}
use Rattle.script_report.proofs.writing.write_duplex.Goals as goal

pub returns-in_err-write_run-clause-prefix : goal.returns-in_err-write_run-clause-prefix
returns-in_err-write_run-clause-prefix g c =
    on_err c.from_residual.result _
    (part_more (g.K.Sink.written c.args.out.now) (g.K.Sink.written c.write_run.new.out) c.args.page.now (run_lines c.args.context.commands.now c.args.context.books.now c.args.context.number c.args.command.now c.args.duplex.now.run) (acts_text c.args.command.now c.args.duplex.now) c.in_err-write_run.ensures.prefix)

pub returns-clause-whole : goal.returns-clause-whole
returns-clause-whole g c =
    then_ok c.write_acts.result (g.K.Sink.written c.args.out.now) (g.K.Sink.written c.write_run.new.out) (g.K.Sink.written c.write_acts.new.out) c.args.page.now c.write_run.new.page c.write_acts.new.page (run_lines c.args.context.commands.now c.args.context.books.now c.args.context.number c.args.command.now c.args.duplex.now.run) (acts_text c.args.command.now c.args.duplex.now) c.in_ok-write_run.ensures.whole
    c.write_acts.ensures.whole

pub returns-clause-prefix : goal.returns-clause-prefix
returns-clause-prefix g c =
    then_err c.write_acts.result (g.K.Sink.written c.args.out.now) (g.K.Sink.written c.write_run.new.out) (g.K.Sink.written c.write_acts.new.out) c.args.page.now c.write_run.new.page (run_lines c.args.context.commands.now c.args.context.books.now c.args.context.number c.args.command.now c.args.duplex.now.run) (acts_text c.args.command.now c.args.duplex.now) c.in_ok-write_run.ensures.whole
    c.write_acts.ensures.prefix
