use Rattle.std.proofs.Common.{◌≡◌, arith, subst, sym}
use Rattle.net_machine.specs.Moves.{asks}
use Rattle.net_present.specs.Present.{Present}
use Rattle.net_needs.specs.Staying.{IsCounted}
use Rattle.fabric_events.proofs.Laws.{node_count}
use Rattle.fabric_events.specs.Fabrics.{present_of}
use Rattle.fabric_net.specs.Asking.{CanAskNow, asked_now}
use Rattle.fabric_net.specs.NetView.{NetSeen}
use Rattle.fabric_net.specs.Standing.{StandsFor}
use Rattle.fabric_net.proofs.Standing.{counted-asked, stands-asked}
use Rattle.fabric_net.proofs.Telling.{host-there}
use Rattle.fabric_net.proofs.net.Net.ask.Goals as goal

pub ask_request-requires-clause-there : goal.ask_request-requires-clause-there
ask_request-requires-clause-there c =
    let can = subst (λ (net : NetSeen). CanAskNow net.present c.args.node c.args.packet) (sym c.self.view_is) c.requires in
    let there = host-there c.self.inside.fabric.wires c.args.node can.host in
    let many = node_count c.self.inside.fabric c.self.invariant.parts in
    omega (arith, there, many)

pub invariant_of-self-2 : goal.invariant_of-self-2
invariant_of-self-2 c =
    let p = present_of c.self.inside.fabric in
    let can = subst (λ (net : NetSeen). CanAskNow net.present c.args.node c.args.packet) (sym c.self.view_is) c.requires in
    let present : present_of c.ask_request.new.self ≡ asked_now c.args.node c.args.packet p = c.in_ok-ask_request.ensures.ok in
    record {
      parts = c.in_ok-ask_request.ensures.sound;
      state = asks c.args.node c.args.packet c.self.invariant.state;
      stands = subst (λ (q : Present). StandsFor q (asks c.args.node c.args.packet c.self.invariant.state)) (sym present) (stands-asked p c.self.invariant.state c.args.node c.args.packet can c.self.invariant.stands);
      counted = subst (λ (q : Present). IsCounted c.self.inside.steps q) (sym present) (counted-asked c.self.inside.steps p c.args.node c.args.packet c.self.invariant.counted);
      few = c.self.invariant.few;
      armed = tt;
    }

pub returns-clause-machine : goal.returns-clause-machine
returns-clause-machine c =
    let p = present_of c.self.inside.fabric in
    let can = subst (λ (net : NetSeen). CanAskNow net.present c.args.node c.args.packet) (sym c.self.view_is) c.requires in
    let present : present_of c.ask_request.new.self ≡ asked_now c.args.node c.args.packet p = c.in_ok-ask_request.ensures.ok in
    rw (← c.self.view_is) (λ w stands. subst (λ (q : Present). StandsFor q (asks c.args.node c.args.packet w)) (sym present) (stands-asked p w c.args.node c.args.packet can stands))
