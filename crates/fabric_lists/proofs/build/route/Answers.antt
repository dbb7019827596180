use Rattle.std.proofs.Common.{◌<◌, ◌∙◌, length, sym, ap, arith}
use Rattle.fabric_nodes.specs.Shapes.{NodeSeen}
use Rattle.fabric_lists.proofs.RoutedLemmas.{none-entered, port-entered}
use Rattle.fabric_lists.proofs.build.route.Goals as goal
use Rattle.fabric_lists.proofs.build.route.Goals.{in-Some, in-None}

pub loop-epid-preserved : goal.loop-epid-preserved
loop-epid-preserved c =
    let tree = c.args.topology.now in
    let items = c.as_slice-epid-items.result.now in
    let i = c.loop-epid.epid-index in
    let there : i < length items = omega arith in
    elim c.match-exit_to.branch [
      | in-Some w ↦ record {
        shape = ap (λ (n : NodeSeen). n.shape) (w.node-is ∙ w.set.ensures) ∙ c.loop-epid.invariant.shape;
        table = ap (λ (n : NodeSeen). n.table) (w.node-is ∙ w.set.ensures)
            ∙ port-entered tree c.args.x c.args.epids.now items i _ c.loop-epid.node.table c.requires.tree c.requires.epids
            c.as_slice-epid-items.ensures there c.loop-epid.invariant.table w.in-Some.port (sym c.exit_to.ensures.value ∙ w.in-Some.is);
      }
      | in-None w ↦ record {
        shape = ap (λ (n : NodeSeen). n.shape) w.node-is ∙ c.loop-epid.invariant.shape;
        table = ap (λ (n : NodeSeen). n.table) w.node-is
            ∙ none-entered tree c.args.x c.args.epids.now items i _ c.loop-epid.node.table c.requires.tree c.requires.epids
            c.as_slice-epid-items.ensures there c.loop-epid.invariant.table (sym c.exit_to.ensures.value ∙ w.in-None.is);
      }
    ]
