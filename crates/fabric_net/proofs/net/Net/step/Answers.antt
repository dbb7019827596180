use Rattle.std.proofs.Common.{◌≡◌, ◌∙◌, ◌+◌, ◌<◌, Option, arith, refl, subst, sym}
use Rattle.std.specs.Prelude.{IsTrue, Some}
use Rattle.net_machine.specs.Effects.{after}
use Rattle.net_needs.proofs.Laws.{counts_rise, lawful_gives_needs}
use Rattle.net_needs.specs.Staying.{IsCounted}
use Rattle.net_present.specs.Onward.{Held}
use Rattle.net_present.specs.Present.{Present}
use Rattle.fabric_events.specs.Choosing.{doable_now}
use Rattle.fabric_events.specs.Fabrics.{present_of}
use Rattle.fabric_net.specs.NetView.{IsArmed, NetSeen, most_steps}
use Rattle.fabric_net.specs.Standing.{StandsFor}
use Rattle.fabric_net.specs.declared.net.Prepared.{Prepared}
use Rattle.fabric_net.proofs.Choosing.{doable-enabled}
use Rattle.fabric_net.proofs.Standing.{held-follows, stands-after, stands-loaded, with-banks}
use Rattle.fabric_net.proofs.Stepping.{armed-ready, made-for, not-none}
use Rattle.fabric_net.proofs.net.Net.step.Goals.{in-Some, in-None}
use Rattle.fabric_net.proofs.net.Net.step.Goals as goal

pub happen-requires-clause-needs : goal.happen-requires-clause-needs
happen-requires-clause-needs g c =
    let p = present_of c.self.inside.fabric in
    let can = doable-enabled p c.args.event (subst (λ (net : NetSeen). IsTrue (doable_now net.present c.args.event)) (sym c.self.view_is) c.requires.doable) in
    let stands = c.self.invariant.stands in
    lawful_gives_needs p c.self.invariant.state c.args.event stands.lawful stands.now can

pub happen-requires-clause-ready : goal.happen-requires-clause-ready
happen-requires-clause-ready g c =
    let p = present_of c.self.inside.fabric in
    let e = c.args.event in
    let o = c.self.inside.prepared in
    let can = doable-enabled p e (subst (λ (net : NetSeen). IsTrue (doable_now net.present e)) (sym c.self.view_is) c.requires.doable) in
    let prepared = subst (λ (net : NetSeen). net.prepared ≡ Some e) (sym c.self.view_is) c.requires.prepared in
    elim c.match-take.branch [
      | in-Some w ↦ rw w.room-is (armed-ready c.self.inside o w.in-Some.prepared e (sym c.take.ensures.value ∙ w.in-Some.is) c.self.invariant.armed prepared can)
      | in-None w ↦ absurd (not-none o e (sym c.take.ensures.value ∙ w.in-None.is) prepared)
    ]

pub invariant_of-self : goal.invariant_of-self
invariant_of-self g c =
    let p = present_of c.self.inside.fabric in
    let e = c.args.event in
    let w = c.self.invariant.state in
    let banks = g.B.RegisterSlots.slots c.args.banks.now in
    let h : Held = record { present = p; banks = banks } in
    let can = doable-enabled p e (subst (λ (net : NetSeen). IsTrue (doable_now net.present e)) (sym c.self.view_is) c.requires.doable) in
    let loaded = stands-loaded p w banks c.self.invariant.stands in
    let o = c.self.inside.prepared in
    let prepared = subst (λ (net : NetSeen). net.prepared ≡ Some e) (sym c.self.view_is) c.requires.prepared in
    let count : c.self.inside.steps < most_steps = elim c.match-take.branch [
      | in-Some v ↦ (made-for c.self.inside o v.in-Some.prepared (sym c.take.ensures.value ∙ v.in-Some.is) c.self.invariant.armed).count
      | in-None v ↦ absurd (not-none o e (sym c.take.ensures.value ∙ v.in-None.is) prepared)
    ] in
    record {
      parts = c.happen.ensures.sound;
      state = after (with-banks w banks) e;
      stands = subst (λ (q : Present). StandsFor q (after (with-banks w banks) e)) (sym c.happen.ensures.present) (stands-after h (with-banks w banks) e loaded refl can);
      counted = subst (λ (q : Present). IsCounted (c.self.inside.steps + 1) q) (sym c.happen.ensures.present) (counts_rise c.self.inside.steps e h c.self.invariant.counted);
      few = omega (arith, count);
      armed = subst (λ (o : Option Prepared). IsArmed (record { fabric = c.happen.new.self; journal = c.push_reserved.new.self; steps = c.self.inside.steps + 1; prepared = o }) o) (sym c.take.ensures.after) tt;
    }

pub returns-clause-machine : goal.returns-clause-machine
returns-clause-machine g c =
    let p = present_of c.self.inside.fabric in
    let e = c.args.event in
    let banks = g.B.RegisterSlots.slots c.args.banks.now in
    let h : Held = record { present = p; banks = banks } in
    let can = doable-enabled p e (subst (λ (net : NetSeen). IsTrue (doable_now net.present e)) (sym c.self.view_is) c.requires.doable) in
    rw (← c.self.view_is) (λ w stands same. (
      subst (λ (q : Present). StandsFor q (after w e)) (sym c.happen.ensures.present) (stands-after h w e stands (sym same) can),
      sym (c.happen.ensures.banks ∙ (held-follows h w e stands (sym same) can).banks),
    ))
