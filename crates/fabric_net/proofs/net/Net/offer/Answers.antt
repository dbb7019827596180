use Rattle.std.proofs.Common.{◌≡◌, Some, slice_get, subst, sym}
use Rattle.net_present.specs.Kept.{now_at}
use Rattle.net_present.specs.Present.{Present}
use Rattle.net_needs.specs.Staying.{IsCounted}
use Rattle.fabric_events.specs.Fabrics.{present_of}
use Rattle.fabric_net.specs.Standing.{StandsFor}
use Rattle.fabric_net.specs.NetView.{NetSeen}
use Rattle.fabric_net.proofs.Standing.{counted-offered, stands-offered}
use Rattle.fabric_net.proofs.net.Net.offer.Goals as goal

pub invariant_of-self : goal.invariant_of-self
invariant_of-self c =
    let p = present_of c.self.inside.fabric in
    let s = c.args.s in
    let next = subst (λ (net : NetSeen). slice_get (now_at net.present.streams s).ready (now_at net.present.streams s).offered ≡ Some c.args.packet) (sym c.self.view_is) c.requires.next in
    let present = c.offer.ensures.present in
    record {
      parts = c.offer.ensures.sound;
      state = c.self.invariant.state;
      stands = subst (λ (q : Present). StandsFor q c.self.invariant.state) (sym present) (stands-offered p c.self.invariant.state s c.args.packet next c.self.invariant.stands);
      counted = subst (λ (q : Present). IsCounted c.self.inside.steps q) (sym present) (counted-offered c.self.inside.steps p s c.self.invariant.counted);
      few = c.self.invariant.few;
      armed = tt;
    }

pub returns-clause-machine : goal.returns-clause-machine
returns-clause-machine c =
    let p = present_of c.self.inside.fabric in
    let s = c.args.s in
    let next = subst (λ (net : NetSeen). slice_get (now_at net.present.streams s).ready (now_at net.present.streams s).offered ≡ Some c.args.packet) (sym c.self.view_is) c.requires.next in
    rw (← c.self.view_is) (λ w stands. subst (λ (q : Present). StandsFor q w) (sym c.offer.ensures.present) (stands-offered p w s c.args.packet next stands))
