use Rattle.net_machine.specs.Tallies.{end_of}
use Rattle.stream_pump.proofs.Rows.{more-row}
use Rattle.stream_pump.proofs.tells.ends.Goals as goal

pub loop-s-preserved : goal.loop-s-preserved
loop-s-preserved c = λ w stands.
    more-row (end_of w) c.loop-s.s c.end.result c.loop-s.ends c.push.new.self (c.loop-s.invariant w stands) (c.end.ensures.machine w stands) c.in_ok-push.ensures.ok
