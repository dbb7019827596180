use Rattle.std.proofs.Common.{◌≡◌, true, subst, sym, ◌∙◌}
use Rattle.net_machine.specs.Conditions.{ends_at_rx}
use Rattle.net_present.specs.Present.{Present}
use Rattle.net_needs.specs.Staying.{IsCounted}
use Rattle.fabric_events.specs.Fabrics.{present_of}
use Rattle.fabric_net.specs.Standing.{StandsFor}
use Rattle.fabric_net.specs.NetView.{NetSeen}
use Rattle.fabric_net.proofs.Standing.{counted-handed, first-given, stands-handed}
use Rattle.fabric_net.proofs.net.Net.hand.Goals as goal

pub invariant_of-self : goal.invariant_of-self
invariant_of-self c =
    let p = present_of c.self.inside.fabric in
    let s = c.args.s in
    let at = subst (λ (net : NetSeen). ends_at_rx net.present.plan s ≡ true) (sym c.self.view_is) c.requires.rx in
    let present = c.hand.ensures.present in
    record {
      parts = c.hand.ensures.sound;
      state = c.self.invariant.state;
      stands = subst (λ (q : Present). StandsFor q c.self.invariant.state) (sym present) (stands-handed p c.self.invariant.state s at c.self.invariant.stands);
      counted = subst (λ (q : Present). IsCounted c.self.inside.steps q) (sym present) (counted-handed c.self.inside.steps p s c.self.invariant.counted);
      few = c.self.invariant.few;
      armed = tt;
    }

pub returns-clause-given : goal.returns-clause-given
returns-clause-given c = rw (← c.self.view_is) (λ w stands. c.hand.ensures.packet ∙ first-given _ w c.args.s stands)

pub returns-clause-machine : goal.returns-clause-machine
returns-clause-machine c =
    let p = present_of c.self.inside.fabric in
    let s = c.args.s in
    let at = subst (λ (net : NetSeen). ends_at_rx net.present.plan s ≡ true) (sym c.self.view_is) c.requires.rx in
    rw (← c.self.view_is) (λ w stands. subst (λ (q : Present). StandsFor q w) (sym c.hand.ensures.present) (stands-handed p w s at stands))
