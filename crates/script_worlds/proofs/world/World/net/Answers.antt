use Rattle.std.proofs.Common.{◌≡◌, subst, sym}
use Rattle.fabric_events.specs.Begun.{built_now}
use Rattle.fabric_net.specs.Standing.{StandsFor}
use Rattle.graph_core.specs.State.{State}
use Rattle.net_machine.specs.Begin.{built}
use Rattle.net_present.specs.Present.{Present}
use Rattle.net_topology.specs.declared.plan.Plan.{Plan}
use Rattle.run_plans.specs.Layouts.{IsLayout}
use Rattle.script_worlds.proofs.Standing.{built_ready, none_stand}
use Rattle.script_worlds.proofs.world.World.net.Goals as goal

pub returns-in_ok-net-in-Ok-clause-machine : goal.returns-in_ok-net-in-Ok-clause-machine
returns-in_ok-net-in-Ok-clause-machine c = λ banks.
    let made = c.in_ok-net-in-Ok.ensures in
    let tree : c.in-Ok.topology ≡ c.args.plan.now = c.in-Ok.ensures.tree.0 in
    subst (λ (t : Plan). StandsFor (built_now t c.args.routed) (built t c.args.routed banks)) tree
    (subst (λ (p : Present). StandsFor p (built c.in-Ok.topology c.args.routed banks)) made.present (made.machine banks))

pub invariant_of-self : goal.invariant_of-self
invariant_of-self c =
    let made = c.in_ok-net-in-Ok.ensures in
    let layout = c.new-in-Ok in
    record {
      layout = subst (λ (graph : State). IsLayout graph.diagram layout.result) (sym c.new.ensures) layout.ensures.empty;
      stands = none_stand c.in-Ok.topology layout.result layout.ensures.value;
      ready = built_ready c.in-Ok.topology c.args.routed c.in_ok-net-in-Ok.net made.present made.rest;
      found = tt;
    }
