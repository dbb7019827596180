use Rattle.std.proofs.Common.{List, [], ◌∷◌, ◌++◌, sym, ◌∙◌, ap, subst}
use Rattle.net_machine.specs.declared.event.Event.{Event}
use Rattle.net_present.specs.Present.{Present}
use Rattle.fabric_net.specs.Standing.{StandsFor}
use Rattle.host_talk.proofs.Settling.{going-ends, going-starts, going-steps}
use Rattle.host_talk.proofs.requests.settle.Goals as goal

pub loop-step-init : goal.loop-step-init
loop-step-init g c = going-starts c.args.net.now (g.B.RegisterSlots.slots c.args.banks.now)

pub loop-step-preserved : goal.loop-step-preserved
loop-step-preserved g c =
    going-steps c.args.net.now c.loop-step.net c.step.new.self (g.B.RegisterSlots.slots c.args.banks.now) (g.B.RegisterSlots.slots c.loop-step.banks)
    (g.B.RegisterSlots.slots c.step.new.banks) c.in-Some.event c.loop-step.invariant (sym c.choose.ensures.event ∙ c.in-Some.is)
    (c.step.ensures.journal ∙ ap (λ (journal : List Event). journal ++ c.in-Some.event ∷ []) c.prepare.ensures.journal)
    (λ w stands same. c.step.ensures.machine w (subst (λ (p : Present). StandsFor p w) (sym c.prepare.ensures.present) stands) same)

pub returns-in-None : goal.returns-in-None
returns-in-None g c =
    going-ends c.args.net.now c.loop-step.net (g.B.RegisterSlots.slots c.args.banks.now) (g.B.RegisterSlots.slots c.loop-step.banks) c.loop-step.invariant
    (sym c.choose.ensures.event ∙ c.in-None.is)
