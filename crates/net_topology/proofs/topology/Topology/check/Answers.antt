use Rattle.std.proofs.Common.{rules, ◌≡◌, ◌≤◌, length, subst, arith}
use Rattle.net_topology.specs.Mapped.{IsMapped}
use Rattle.net_topology.proofs.CheckLemmas.{links_few}
use Rattle.net_topology.proofs.topology.Topology.check.Goals as goal

pub invariant_of-result : goal.invariant_of-result
invariant_of-result c =
    let same : c.args.plan.now ≡ c.in_ok-plan.plan = search rules in
    let tree = c.in_ok-rows.ensures.ok.0 in
    let few : length c.args.plan.now.links ≤ length c.args.plan.now.nodes = links_few c.args.plan.now (length c.args.plan.now.links) tree.links in
    subst (λ plan. IsMapped plan c.in_ok-ups.ups) same (record {
      checked = record { fits = c.requires; tree = tree };
      known = c.in_ok-ups.ensures;
      few = omega (arith, few, tree.nodes.few, c.requires.limit);
    })
