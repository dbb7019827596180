use Rattle.net_machine.specs.Tallies.{line_at}
use Rattle.stream_pump.specs.Telling.{has_line}
use Rattle.stream_pump.proofs.Rows.{made-with, made-without}
use Rattle.stream_pump.proofs.lines.lines.Goals.{in-Some+in_ok-push, in_default}
use Rattle.stream_pump.proofs.lines.lines.Goals as goal

pub loop-b-preserved : goal.loop-b-preserved
loop-b-preserved c =
    let plan = c.args.plan.now in
    let b = c.loop-b.b in
    elim c.match-line_of.branch [
      | in-Some+in_ok-push v ↦
          let is = rw v.in-Some.is at c.line_of.ensures in
          λ w stands taken. rw v.lines-is (made-with (line_at w) has_line plan b v.in-Some.line c.loop-b.lines v.push.new.self
          (c.loop-b.invariant w stands taken) is.0 (is.1 w stands taken) v.in_ok-push.ensures.ok)
      | in_default v ↦
          let not = rw v.in_default.is at c.line_of.ensures in
          λ w stands taken. rw v.lines-is (made-without (line_at w) has_line plan b c.loop-b.lines (c.loop-b.invariant w stands taken) not)
    ]
