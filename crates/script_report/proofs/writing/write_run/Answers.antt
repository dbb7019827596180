use Rattle.std.proofs.Common.{◌++◌}
use Rattle.script_report.specs.Report.{events_text, peaks_text, sinks_text, streams_text}
use Rattle.script_report.proofs.PrintLemmas.{on_err, part_more, part_then, then_err, then_ok}
use Rattle.script_report.proofs.writing.write_run.Goals as goal

pub returns-in_err-write_events-clause-prefix : goal.returns-in_err-write_events-clause-prefix
returns-in_err-write_events-clause-prefix g c =
    on_err c.from_residual.result _
    (part_more (g.K.Sink.written c.args.out.now) (g.K.Sink.written c.write_events.new.out) c.args.page.now (events_text c.args.command.now c.args.run.now) ((streams_text c.args.context.commands.now c.args.context.books.now c.args.context.number c.args.run.now) ++ ((sinks_text c.args.context.commands.now c.args.context.books.now c.args.context.number c.args.run.now) ++ (peaks_text c.args.command.now c.args.run.now))) c.in_err-write_events.ensures.prefix)

pub returns-in_err-write_streams-clause-prefix : goal.returns-in_err-write_streams-clause-prefix
returns-in_err-write_streams-clause-prefix g c =
    on_err c.from_residual-in_err-write_streams.result _
    (part_then (g.K.Sink.written c.args.out.now) (g.K.Sink.written c.write_events.new.out) (g.K.Sink.written c.write_streams.new.out) c.args.page.now c.write_events.new.page (events_text c.args.command.now c.args.run.now) ((streams_text c.args.context.commands.now c.args.context.books.now c.args.context.number c.args.run.now) ++ ((sinks_text c.args.context.commands.now c.args.context.books.now c.args.context.number c.args.run.now) ++ (peaks_text c.args.command.now c.args.run.now))) c.in_ok-write_events.ensures.whole
    (part_more (g.K.Sink.written c.write_events.new.out) (g.K.Sink.written c.write_streams.new.out) c.write_events.new.page (streams_text c.args.context.commands.now c.args.context.books.now c.args.context.number c.args.run.now) ((sinks_text c.args.context.commands.now c.args.context.books.now c.args.context.number c.args.run.now) ++ (peaks_text c.args.command.now c.args.run.now)) c.in_err-write_streams.ensures.prefix))

pub returns-in_err-write_sinks-clause-prefix : goal.returns-in_err-write_sinks-clause-prefix
returns-in_err-write_sinks-clause-prefix g c =
    on_err c.from_residual-in_err-write_sinks.result _
    (part_then (g.K.Sink.written c.args.out.now) (g.K.Sink.written c.write_events.new.out) (g.K.Sink.written c.write_sinks.new.out) c.args.page.now c.write_events.new.page (events_text c.args.command.now c.args.run.now) ((streams_text c.args.context.commands.now c.args.context.books.now c.args.context.number c.args.run.now) ++ ((sinks_text c.args.context.commands.now c.args.context.books.now c.args.context.number c.args.run.now) ++ (peaks_text c.args.command.now c.args.run.now))) c.in_ok-write_events.ensures.whole
    (part_then (g.K.Sink.written c.write_events.new.out) (g.K.Sink.written c.write_streams.new.out) (g.K.Sink.written c.write_sinks.new.out) c.write_events.new.page c.write_streams.new.page (streams_text c.args.context.commands.now c.args.context.books.now c.args.context.number c.args.run.now) ((sinks_text c.args.context.commands.now c.args.context.books.now c.args.context.number c.args.run.now) ++ (peaks_text c.args.command.now c.args.run.now)) c.in_ok-write_streams.ensures.whole
    (part_more (g.K.Sink.written c.write_streams.new.out) (g.K.Sink.written c.write_sinks.new.out) c.write_streams.new.page (sinks_text c.args.context.commands.now c.args.context.books.now c.args.context.number c.args.run.now) (peaks_text c.args.command.now c.args.run.now) c.in_err-write_sinks.ensures.prefix)))

pub returns-clause-whole : goal.returns-clause-whole
returns-clause-whole g c =
    then_ok c.write_peaks.result (g.K.Sink.written c.args.out.now) (g.K.Sink.written c.write_events.new.out) (g.K.Sink.written c.write_peaks.new.out) c.args.page.now c.write_events.new.page c.write_peaks.new.page (events_text c.args.command.now c.args.run.now) ((streams_text c.args.context.commands.now c.args.context.books.now c.args.context.number c.args.run.now) ++ ((sinks_text c.args.context.commands.now c.args.context.books.now c.args.context.number c.args.run.now) ++ (peaks_text c.args.command.now c.args.run.now))) c.in_ok-write_events.ensures.whole
    (then_ok c.write_peaks.result (g.K.Sink.written c.write_events.new.out) (g.K.Sink.written c.write_streams.new.out) (g.K.Sink.written c.write_peaks.new.out) c.write_events.new.page c.write_streams.new.page c.write_peaks.new.page (streams_text c.args.context.commands.now c.args.context.books.now c.args.context.number c.args.run.now) ((sinks_text c.args.context.commands.now c.args.context.books.now c.args.context.number c.args.run.now) ++ (peaks_text c.args.command.now c.args.run.now)) c.in_ok-write_streams.ensures.whole
    (then_ok c.write_peaks.result (g.K.Sink.written c.write_streams.new.out) (g.K.Sink.written c.write_sinks.new.out) (g.K.Sink.written c.write_peaks.new.out) c.write_streams.new.page c.write_sinks.new.page c.write_peaks.new.page (sinks_text c.args.context.commands.now c.args.context.books.now c.args.context.number c.args.run.now) (peaks_text c.args.command.now c.args.run.now) c.in_ok-write_sinks.ensures.whole
    c.write_peaks.ensures.whole))

pub returns-clause-prefix : goal.returns-clause-prefix
returns-clause-prefix g c =
    then_err c.write_peaks.result (g.K.Sink.written c.args.out.now) (g.K.Sink.written c.write_events.new.out) (g.K.Sink.written c.write_peaks.new.out) c.args.page.now c.write_events.new.page (events_text c.args.command.now c.args.run.now) ((streams_text c.args.context.commands.now c.args.context.books.now c.args.context.number c.args.run.now) ++ ((sinks_text c.args.context.commands.now c.args.context.books.now c.args.context.number c.args.run.now) ++ (peaks_text c.args.command.now c.args.run.now))) c.in_ok-write_events.ensures.whole
    (then_err c.write_peaks.result (g.K.Sink.written c.write_events.new.out) (g.K.Sink.written c.write_streams.new.out) (g.K.Sink.written c.write_peaks.new.out) c.write_events.new.page c.write_streams.new.page (streams_text c.args.context.commands.now c.args.context.books.now c.args.context.number c.args.run.now) ((sinks_text c.args.context.commands.now c.args.context.books.now c.args.context.number c.args.run.now) ++ (peaks_text c.args.command.now c.args.run.now)) c.in_ok-write_streams.ensures.whole
    (then_err c.write_peaks.result (g.K.Sink.written c.write_streams.new.out) (g.K.Sink.written c.write_sinks.new.out) (g.K.Sink.written c.write_peaks.new.out) c.write_streams.new.page c.write_sinks.new.page (sinks_text c.args.context.commands.now c.args.context.books.now c.args.context.number c.args.run.now) (peaks_text c.args.command.now c.args.run.now) c.in_ok-write_sinks.ensures.whole
    c.write_peaks.ensures.prefix))
