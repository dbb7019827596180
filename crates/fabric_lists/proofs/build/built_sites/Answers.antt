use Rattle.net_machine.specs.Begin.{built_node}
use Rattle.fabric_nodes.specs.Shapes.{shape_at}
use Rattle.fabric_nodes.specs.Sites.{node_of}
use Rattle.fabric_lists.specs.SitesView.{shape_in}
use Rattle.fabric_lists.proofs.PartLemmas.{one-more}
use Rattle.fabric_lists.proofs.build.built_sites.Goals as goal

pub loop-x-preserved : goal.loop-x-preserved
loop-x-preserved c =
    let tree = c.args.topology.now in
    let pushed = c.in_ok-push.ensures.items in
    let made = c.in_ok-built_site.ensures in
    record {
      nodes = one-more node_of _ _ _ (built_node tree c.args.routed) c.loop-x.x pushed c.loop-x.invariant.nodes made.node;
      shapes = one-more shape_in _ _ _ (shape_at tree) c.loop-x.x pushed c.loop-x.invariant.shapes made.shape;
    }
