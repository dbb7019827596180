use Rattle.std.proofs.Common.{arith, subst, sym}
use Rattle.std.proofs.lemmas.List.{length-map}
use Rattle.net_machine.specs.Moves.{answered}
use Rattle.net_present.specs.Present.{Present}
use Rattle.net_needs.specs.Staying.{IsCounted}
use Rattle.fabric_nodes.specs.Sites.{node_of}
use Rattle.fabric_events.specs.Fabrics.{present_of}
use Rattle.fabric_net.specs.Standing.{StandsFor}
use Rattle.fabric_net.proofs.Standing.{answered-past, counted-answered, stands-answered}
use Rattle.fabric_net.proofs.net.Net.answer.Goals as goal

pub invariant_of-self : goal.invariant_of-self
invariant_of-self c =
    let p = present_of c.self.inside.fabric in
    let present = c.take_answer.ensures.present in
    record {
      parts = c.take_answer.ensures.sound;
      state = answered c.args.node c.self.invariant.state;
      stands = subst (λ (q : Present). StandsFor q (answered c.args.node c.self.invariant.state)) (sym present) (stands-answered p c.self.invariant.state c.args.node c.self.invariant.stands);
      counted = subst (λ (q : Present). IsCounted c.self.inside.steps q) (sym present) (counted-answered c.self.inside.steps p c.args.node c.self.invariant.counted);
      few = c.self.invariant.few;
      armed = tt;
    }

pub returns-then-node-len-clause-machine : goal.returns-then-node-len-clause-machine
returns-then-node-len-clause-machine c =
    let p = present_of c.self.inside.fabric in
    rw (← c.self.view_is) (λ w stands. subst (λ (q : Present). StandsFor q (answered c.args.node w)) (sym c.take_answer.ensures.present) (stands-answered p w c.args.node stands))

pub returns-else-node-len-clause-machine : goal.returns-else-node-len-clause-machine
returns-else-node-len-clause-machine c =
    let p = present_of c.self.inside.fabric in
    let past = c.if-node-len.false in
    let many = length-map c.self.inside.fabric.sites.items node_of in
    rw (← c.self.view_is) (λ w stands. subst (λ (q : Present). StandsFor q (answered c.args.node w)) (answered-past p c.args.node (omega (arith, past, many))) (stands-answered p w c.args.node stands))
