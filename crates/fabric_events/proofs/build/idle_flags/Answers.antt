use Rattle.std.proofs.Common.{ℕ, false, length, ◌∙◌, ap}
use Rattle.std.specs.Prelude.{replicate}
use Rattle.net_topology.specs.declared.plan.Plan.{Plan}
use Rattle.fabric_events.proofs.WorkLemmas.{idle_from}
use Rattle.fabric_events.proofs.build.idle_flags.Goals as goal

pub returns : goal.returns
returns c =
    c.in_ok-flags.ensures
    ∙ ap (λ (n : ℕ). replicate n false) (c.len.ensures ∙ ap (λ (p : Plan). length p.nodes) c.plan-plan.ensures.same)
    ∙ idle_from c.args.topology.now c.args.routed (length c.args.topology.now.nodes) 0
