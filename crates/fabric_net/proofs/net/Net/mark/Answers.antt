use Rattle.std.proofs.Common.{◌≡◌, subst, sym}
use Rattle.net_machine.specs.Moves.{marked}
use Rattle.net_present.specs.Present.{Present}
use Rattle.net_needs.specs.Staying.{IsCounted}
use Rattle.fabric_events.specs.Fabrics.{present_of}
use Rattle.fabric_net.specs.Asking.{marked_now}
use Rattle.fabric_net.specs.NetView.{NetSeen}
use Rattle.fabric_net.specs.Standing.{HasNoEntries, StandsFor}
use Rattle.fabric_net.proofs.Standing.{counted-marked, stands-marked}
use Rattle.fabric_net.proofs.net.Net.mark.Goals as goal

pub invariant_of-self-2 : goal.invariant_of-self-2
invariant_of-self-2 c =
    let p = present_of c.self.inside.fabric in
    let faults = c.args.faults.now in
    let empty = subst (λ (net : NetSeen). HasNoEntries net.present) (sym c.self.view_is) c.requires in
    let present : present_of c.rename.new.fabric ≡ marked_now faults p = c.in_ok-rename.ensures.ok in
    record {
      parts = c.in_ok-rename.ensures.sound;
      state = marked faults c.self.invariant.state;
      stands = subst (λ (q : Present). StandsFor q (marked faults c.self.invariant.state)) (sym present) (stands-marked p c.self.invariant.state faults empty c.self.invariant.stands);
      counted = subst (λ (q : Present). IsCounted c.self.inside.steps q) (sym present) (counted-marked c.self.inside.steps p faults c.self.invariant.counted);
      few = c.self.invariant.few;
      armed = tt;
    }

pub returns-clause-machine : goal.returns-clause-machine
returns-clause-machine c =
    let p = present_of c.self.inside.fabric in
    let faults = c.args.faults.now in
    let empty = subst (λ (net : NetSeen). HasNoEntries net.present) (sym c.self.view_is) c.requires in
    let present : present_of c.rename.new.fabric ≡ marked_now faults p = c.in_ok-rename.ensures.ok in
    rw (← c.self.view_is) (λ w stands. subst (λ (q : Present). StandsFor q (marked faults w)) (sym present) (stands-marked p w faults empty stands))
