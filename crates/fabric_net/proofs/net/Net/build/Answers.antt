use Rattle.std.proofs.Common.{◌≡◌, ◌∙◌, ◌<◌, ◌^◌, ℕ, List, [], ap, arith, subst, sym}
use Rattle.std.specs.Prelude.{Some}
use Rattle.chdr_words.specs.declared.epid.Epid.{Epid}
use Rattle.net_topology.specs.Tree.{epid_at}
use Rattle.net_topology.specs.declared.plan.NodePlan.{NodePlan}
use Rattle.net_topology.specs.declared.plan.Plan.{Plan}
use Rattle.net_machine.specs.Begin.{built}
use Rattle.net_lawful.specs.Messages.{FitsTree}
use Rattle.net_present.specs.Present.{Present}
use Rattle.net_needs.specs.Staying.{IsCounted}
use Rattle.fabric_net.specs.Standing.{IsResting, StandsFor}
use Rattle.fabric_net.proofs.Resting.{built-rests}
use Rattle.fabric_net.proofs.Standing.{counted-built, stands-built}
use Rattle.fabric_net.proofs.net.Net.build.Goals as goal

pub invariant_of-result : goal.invariant_of-result
invariant_of-result c =
    let tree = c.args.topology.now in
    let fits : FitsTree tree = record {
      plan = c.plan-plan.ensures.tree.fits;
      epids = subst (λ (nodes : List NodePlan). (x : ℕ) (epid : Epid) → epid_at nodes x ≡ Some epid → epid.0 < 2 ^ 16)
          (c.as_slice.ensures ∙ ap (λ (plan : Plan). plan.nodes) c.plan-plan.ensures.same) c.epids_are_short.ensures;
    } in
    record {
      parts = c.in_ok-fabric.ensures.sound;
      state = built tree c.args.routed [];
      stands = subst (λ (q : Present). StandsFor q (built tree c.args.routed [])) (sym c.in_ok-fabric.ensures.present) (stands-built tree c.args.routed [] c.plan-plan.ensures.tree.tree fits);
      counted = subst (λ (q : Present). IsCounted 0 q) (sym c.in_ok-fabric.ensures.present) (counted-built tree c.args.routed);
      few = omega arith;
      armed = tt;
    }

pub returns-clause-machine : goal.returns-clause-machine
returns-clause-machine c =
    let tree = c.args.topology.now in
    let fits : FitsTree tree = record {
      plan = c.plan-plan.ensures.tree.fits;
      epids = subst (λ (nodes : List NodePlan). (x : ℕ) (epid : Epid) → epid_at nodes x ≡ Some epid → epid.0 < 2 ^ 16)
          (c.as_slice.ensures ∙ ap (λ (plan : Plan). plan.nodes) c.plan-plan.ensures.same) c.epids_are_short.ensures;
    } in
    λ banks. subst (λ (q : Present). StandsFor q (built tree c.args.routed banks)) (sym c.in_ok-fabric.ensures.present) (stands-built tree c.args.routed banks c.plan-plan.ensures.tree.tree fits)

pub returns-clause-rest : goal.returns-clause-rest
returns-clause-rest c =
    subst (λ (q : Present). IsResting q) (sym c.in_ok-fabric.ensures.present) (built-rests c.args.topology.now c.args.routed)
