use Rattle.net_machine.specs.Tallies.{tally_of}
use Rattle.stream_pump.proofs.Rows.{more-row}
use Rattle.stream_pump.proofs.tells.tallies.Goals as goal

pub loop-s-preserved : goal.loop-s-preserved
loop-s-preserved c = λ w stands.
    more-row (tally_of w) c.loop-s.s c.tally.result c.loop-s.tallies c.push.new.self (c.loop-s.invariant w stands) (c.tally.ensures.machine w stands) c.in_ok-push.ensures.ok
