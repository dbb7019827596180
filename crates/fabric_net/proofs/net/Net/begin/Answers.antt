use Rattle.std.proofs.Common.{◌≡◌, arith, subst, sym}
use Rattle.net_machine.specs.Begin.{begun}
use Rattle.net_machine.specs.CanBegin.{CanBegin}
use Rattle.net_present.specs.Present.{Present}
use Rattle.net_needs.specs.Staying.{IsCounted}
use Rattle.fabric_events.specs.Begun.{begun_now}
use Rattle.fabric_events.specs.Fabrics.{present_of}
use Rattle.fabric_net.specs.Standing.{IsResting, StandsFor}
use Rattle.fabric_net.specs.NetView.{NetSeen}
use Rattle.fabric_net.proofs.Standing.{counted-begun, stands-begun}
use Rattle.fabric_net.proofs.net.Net.begin.Goals as goal

pub invariant_of-self-2 : goal.invariant_of-self-2
invariant_of-self-2 c =
    let p = present_of c.self.inside.fabric in
    let plan = c.args.plan.now in
    let rest = subst (λ (net : NetSeen). IsResting net.present) (sym c.self.view_is) c.requires.rest in
    let can = subst (λ (net : NetSeen). CanBegin net.present.tree net.present.nodes plan) (sym c.self.view_is) c.requires.can in
    let present : present_of c.begin.new.self ≡ begun_now plan p = c.in_ok-begin.ensures.ok in
    record {
      parts = c.in_ok-begin.ensures.sound;
      state = begun plan c.self.invariant.state;
      stands = subst (λ (q : Present). StandsFor q (begun plan c.self.invariant.state)) (sym present) (stands-begun plan p c.self.invariant.state rest can c.self.invariant.stands);
      counted = subst (λ (q : Present). IsCounted 0 q) (sym present) (counted-begun plan p);
      few = omega arith;
      armed = tt;
    }

pub returns-clause-machine : goal.returns-clause-machine
returns-clause-machine c =
    let p = present_of c.self.inside.fabric in
    let plan = c.args.plan.now in
    let rest = subst (λ (net : NetSeen). IsResting net.present) (sym c.self.view_is) c.requires.rest in
    let can = subst (λ (net : NetSeen). CanBegin net.present.tree net.present.nodes plan) (sym c.self.view_is) c.requires.can in
    let present : present_of c.begin.new.self ≡ begun_now plan p = c.in_ok-begin.ensures.ok in
    rw (← c.self.view_is) (λ w stands. subst (λ (q : Present). StandsFor q (begun plan w)) (sym present) (stands-begun plan p w rest can stands))
