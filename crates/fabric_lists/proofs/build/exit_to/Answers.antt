use Rattle.std.proofs.Common.{ℕ, ◌<◌, length, sym, ap, subst}
use Rattle.net_topology.specs.declared.plan.Plan.{Plan}
use Rattle.fabric_nodes.specs.Shapes.{HasPort, shape_at}
use Rattle.fabric_lists.proofs.BuildLemmas.{way-port}
use Rattle.fabric_lists.proofs.build.exit_to.Goals as goal

pub returns-clause-port : goal.returns-clause-port
returns-clause-port c =
    let tree = c.args.topology.now in
    let node = c.in_ok-node.node in
    let there : node < length tree.nodes = subst (λ (p : Plan). node < length p.nodes) c.requires.same c.in_ok-node.ensures.there in
    let port = way-port tree c.args.x node c.in_ok-link.link _ c.requires.tree c.requires.there there c.in_ok-link.ensures.way in
    subst (λ (n : ℕ). HasPort (shape_at tree c.args.x) n) (sym (ap (λ (p : ℕ × ℕ). p.1) c.start_at.ensures.value)) port
