use Rattle.std.proofs.Common.{rules, ◌≡◌, ◌+◌, ◌≤◌, [], ◌∷◌, ◌++◌, length, slice_get, sym, ◌∙◌, ap, subst, arith}
use Rattle.net_topology.specs.Mapped.{HasUps}
use Rattle.net_topology.specs.Parts.{part_of, way_over}
use Rattle.net_topology.proofs.CheckLemmas.{links_few}
use Rattle.net_topology.proofs.LawLemmas.{one_part}
use Rattle.net_topology.proofs.NextLemmas.{HasUps-push}
use Rattle.net_topology.proofs.ups.first_ups.Goals as goal

pub first_over-up-requires-clause-few : goal.first_over-up-requires-clause-few
first_over-up-requires-clause-few c =
    let few : length c.args.plan.now.links ≤ length c.args.plan.now.nodes = links_few c.args.plan.now (length c.args.plan.now.links) c.requires.tree.links in
    omega (arith, few, c.requires.tree.nodes.few, c.requires.limit)

pub first_over-up-requires-clause-joined : goal.first_over-up-requires-clause-joined
first_over-up-requires-clause-joined c =
    subst (λ k. part_of c.args.plan.now.links k c.loop-x.x ≡ part_of c.args.plan.now.links k 0) (sym c.len.ensures) (one_part c.args.plan.now c.requires.tree c.loop-x.x 0 (omega arith) (omega arith))

pub loop-x-preserved : goal.loop-x-preserved
loop-x-preserved c =
    let pushed : c.push.new.self ≡ c.loop-x.ups ++ c.first_over-up.result ∷ [] = search rules in
    subst (HasUps c.args.plan.now (c.loop-x.x + 1)) (sym pushed) (HasUps-push c.args.plan.now c.loop-x.x c.loop-x.ups c.first_over-up.result c.loop-x.invariant (c.first_over-up.ensures ∙ ap (λ k. slice_get (way_over c.args.plan.now.links k c.loop-x.x 0) 0) c.len.ensures))
