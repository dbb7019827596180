use Rattle.std.proofs.Common.{sym, subst, ◌∙◌, refl}
use Rattle.std.specs.Prelude.{IfSome, IsTrue, Option}
use Rattle.net_machine.specs.declared.event.Event.{Event}
use Rattle.fabric_events.specs.Choosing.{doable_now}
use Rattle.stream_rounds.specs.Steps.{more, none}
use Rattle.stream_rounds.proofs.Plainly.{chosen-plain}
use Rattle.stream_rounds.proofs.Stepping.{stepped}
use Rattle.stream_rounds.proofs.events.settle.Goals as goal

pub loop-step-init : goal.loop-step-init
loop-step-init g c = none (record { present = refl; journal = refl; slots = refl })

pub loop-step-preserved : goal.loop-step-preserved
loop-step-preserved g c =
    let e = c.in-Some.event in
    let old = c.loop-step.net in
    let can = subst (λ (o : Option Event). IfSome o (λ (x : Event). IsTrue (doable_now old.present x))) c.in-Some.is c.choose.ensures.doable in
    more e c.loop-step.invariant (chosen-plain old.present e (sym c.choose.ensures.event ∙ c.in-Some.is))
    (stepped e old c.prepare.new.self c.step.new.self (g.B.RegisterSlots.slots c.loop-step.banks) (g.B.RegisterSlots.slots c.step.new.banks) can
    c.prepare.ensures.present c.prepare.ensures.journal c.step.ensures.present c.step.ensures.machine c.step.ensures.journal)
