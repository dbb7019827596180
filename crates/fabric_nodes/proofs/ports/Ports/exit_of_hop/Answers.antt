use Rattle.fabric_nodes.proofs.ports.Ports.exit_of_hop.Goals as goal
use Rattle.fabric_nodes.proofs.PortLemmas.{hop_more}

pub loop-op-preserved : goal.loop-op-preserved
loop-op-preserved c site linked arrival =
    hop_more site c.args.ops.now c.loop-op.op-index c.loop-op.exit c.exit_after-exit.result c.of.result _ c.loop-op-test.true
    (c.loop-op.invariant site linked arrival) c.of.ensures (c.exit_after-exit.ensures site linked arrival)
