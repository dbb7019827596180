use Rattle.graph_core.proofs.Reached.{one_marked, closed_marks}
use Rattle.graph_core.proofs.reach.reaches.Goals as goal

pub loop-init : goal.loop-init
loop-init c = one_marked c.args.edges.now 32 c.args.first c.requires.first

pub returns : goal.returns
returns c = (
  (λ m. c.sweep.ensures.sound c.args.first c.loop.invariant.2 c.args.last m),
  (λ r. closed_marks c.args.edges.now c.sweep.new.marks (c.sweep.ensures.still c.loop-test.false) r (c.sweep.ensures.kept c.args.first c.loop.invariant.1)),
)
