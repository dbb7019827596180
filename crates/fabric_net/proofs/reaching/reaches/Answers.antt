use Rattle.std.proofs.Common.{◌∙◌, ap, arith, length}
use Rattle.net_topology.proofs.Laws.{ranks_are_bounded}
use Rattle.net_topology.specs.declared.plan.Plan.{Plan}
use Rattle.fabric_net.proofs.reaching.reaches.Goals as goal

pub leads_from-requires-clause-rank : goal.leads_from-requires-clause-rank
leads_from-requires-clause-rank c =
    let most = ranks_are_bounded c.args.fabric.now.wires c.in-Some-Some.d in
    let len = c.len-nodes.ensures ∙ ap (λ (p : Plan). length p.nodes) c.plan.ensures.same in
    omega (arith, most, len)
