use Rattle.std.proofs.Common.{sym, subst}
use Rattle.std.specs.Prelude.{IfSome, IsTrue, Option}
use Rattle.net_machine.specs.declared.event.Event.{Event}
use Rattle.net_machine.specs.Moves.{after_journal}
use Rattle.net_present.specs.Onward.{Held}
use Rattle.net_present.specs.Present.{Present}
use Rattle.fabric_events.specs.Choosing.{doable_now}
use Rattle.stream_pump.specs.Running.{IsNext}
use Rattle.stream_pump.specs.Supply.{CarriesOut}
use Rattle.stream_pump.proofs.Stepping.{carries-on, running-done, running-first, running-on, stepped}
use Rattle.stream_pump.proofs.events.run_events.Goals as goal

pub loop-step-init : goal.loop-step-init
loop-step-init g c = record {
  plan = c.requires.plan;
  many = c.requires.drains;
  runs = λ w opened. running-first c.args.seed.0 w c.args.net.now (g.B.RegisterSlots.slots c.args.banks.now) c.args.drains.now.items c.requires.fresh opened;
}

pub returns-in-None-clause-run : goal.returns-in-None-clause-run
returns-in-None-clause-run g c = λ w opened.
    let run = c.loop-step.invariant.runs w opened in
    let here = after_journal w c.loop-step.net.journal in
    let next = c.in_ok-event.ensures.next here run.here.stands run.here.taken in
    running-done c.args.seed.0 c.loop-step.seed.0 c.next_event.new.seed.0 w c.loop-step.net c.next_event.new.net (g.B.RegisterSlots.slots c.loop-step.banks)
    c.loop-step.drains.items c.next_event.new.drains.items run
    (subst (λ (o : Option Event). IsNext c.loop-step.seed.0 here o c.next_event.new.seed.0 c.next_event.new.net.present c.next_event.new.drains.items) c.in-None.is next)
    c.in_ok-event.ensures.journal

pub loop-step-preserved : goal.loop-step-preserved
loop-step-preserved g c =
    let e = c.in-Some.event in
    let old = c.next_event.new.net in
    let mid = c.prepare.new.self in
    let new = c.step.new.self in
    let before = g.B.RegisterSlots.slots c.loop-step.banks in
    let after = g.B.RegisterSlots.slots c.step.new.banks in
    let can = subst (λ (o : Option Event). IfSome o (λ (x : Event). IsTrue (doable_now old.present x))) c.in-Some.is c.in_ok-event.ensures.doable in
    let h : Held = record { present = mid.present; banks = before } in
    record {
      plan = carries-on c.args.plan.now e h new.present c.step.ensures.present
          (subst (λ (p : Present). CarriesOut p c.args.plan.now) (sym c.prepare.ensures.present) c.in_ok-event.ensures.plan);
      many = c.in_ok-event.ensures.drains;
      runs = λ w opened.
          let run = c.loop-step.invariant.runs w opened in
          let here = after_journal w c.loop-step.net.journal in
          let next = subst (λ (o : Option Event). IsNext c.loop-step.seed.0 here o c.next_event.new.seed.0 old.present c.next_event.new.drains.items) c.in-Some.is
          (c.in_ok-event.ensures.next here run.here.stands run.here.taken) in
          running-on c.args.seed.0 c.loop-step.seed.0 c.next_event.new.seed.0 w e c.loop-step.net old new before after c.loop-step.drains.items c.next_event.new.drains.items
          run next c.in_ok-event.ensures.journal
          (stepped e here old mid new before after can next.stands run.here.slots c.prepare.ensures.present c.prepare.ensures.journal
          c.step.ensures.present c.step.ensures.machine c.step.ensures.journal);
    }
