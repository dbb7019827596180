use Rattle.std.proofs.Common.{◌≡◌, length, ◌∙◌, ap, arith}
use Rattle.net_topology.specs.declared.plan.Plan.{Plan}
use Rattle.fabric_events.proofs.fabric.Fabric.sizes.Goals as goal
use Rattle.fabric_events.proofs.SizesLemmas.{few_links, sizes_are}

pub overflow_cast-result-4 : goal.overflow_cast-result-4
overflow_cast-result-4 c =
    let few = few_links c.args.self.now.wires c.plan-tree.ensures.tree in
    let here : c.len-4.result ≡ length c.args.self.now.wires.links = c.len-4.ensures ∙ ap (λ (p : Plan). length p.links) c.plan-tree.ensures.same in
    omega arith

pub overflow_mul-result : goal.overflow_mul-result
overflow_mul-result c =
    let few = few_links c.args.self.now.wires c.plan-tree.ensures.tree in
    let here : c.len-4.result ≡ length c.args.self.now.wires.links = c.len-4.ensures ∙ ap (λ (p : Plan). length p.links) c.plan-tree.ensures.same in
    omega arith

pub returns : goal.returns
returns c =
    sizes_are c.args.self.now c.len.result c.len-2.result c.len-3.result c.len-4.result c.requires c.len.ensures c.len-2.ensures
    (c.len-3.ensures ∙ ap (λ (p : Plan). length p.nodes) c.plan-tree.ensures.same)
    (c.len-4.ensures ∙ ap (λ (p : Plan). length p.links) c.plan-tree.ensures.same)
