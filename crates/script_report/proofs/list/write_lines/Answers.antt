use Rattle.std.proofs.Common.{arith}
use Rattle.script_report.proofs.PrintLemmas.{on_err, part_room, printed_next, printed_start}
use Rattle.script_report.proofs.list.write_lines.Goals as goal

pub loop-place-init : goal.loop-place-init
loop-place-init g c = record {
  text = printed_start (g.K.Sink.written c.args.out.now) c.args.page.now (g.L.LineList.line c.args.list.now);
  later = omega arith;
}

pub returns-in_err-make_room-clause-prefix : goal.returns-in_err-make_room-clause-prefix
returns-in_err-make_room-clause-prefix g c =
    on_err c.from_residual.result _ (part_room (g.K.Sink.written c.args.out.now) (g.K.Sink.written c.loop-place.out) (g.K.Sink.written c.make_room.new.out) c.args.page.now c.loop-place.page
    (g.L.LineList.line c.args.list.now) c.loop-place.place (g.L.LineList.lines c.args.list.now) (omega arith) c.loop-place.invariant.text c.in_err-make_room.ensures.prefix)

pub loop-place-preserved : goal.loop-place-preserved
loop-place-preserved g c = record {
  text = printed_next (g.K.Sink.written c.args.out.now) (g.K.Sink.written c.loop-place.out) (g.K.Sink.written c.make_room.new.out) c.args.page.now c.loop-place.page c.make_room.new.page c.put_line.new.page
      (g.L.LineList.line c.args.list.now) c.loop-place.place c.loop-place.invariant.text c.in_ok-make_room.ensures.whole c.put_line.ensures;
  later = omega (arith, c.in_ok-make_room.ensures.cause.later);
}
