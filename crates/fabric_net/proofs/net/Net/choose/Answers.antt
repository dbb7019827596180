use Rattle.std.proofs.Common.{◌≡◌, ◌∙◌, subst, sym, true}
use Rattle.std.specs.Prelude.{IfSome, Option}
use Rattle.net_machine.specs.declared.event.Event.{Event}
use Rattle.fabric_events.specs.Choosing.{doable_now}
use Rattle.fabric_events.specs.Fabrics.{present_of}
use Rattle.fabric_net.proofs.Choosing.{chosen-can, same-choice, same-seed}
use Rattle.fabric_net.proofs.net.Net.choose.Goals as goal

pub returns-clause-machine : goal.returns-clause-machine
returns-clause-machine c =
    rw (← c.self.view_is) (λ w stands supplied.
    (c.choose.ensures.event ∙ same-choice _ _ w supplied stands.now, c.choose.ensures.seed ∙ same-seed _ _ w supplied stands.now))

pub returns-clause-doable : goal.returns-clause-doable
returns-clause-doable c =
    rw (← c.self.view_is) (subst (λ (o : Option Event). IfSome o (λ (e : Event). doable_now (present_of c.self.inside.fabric) e ≡ true))
    (sym c.choose.ensures.event) (chosen-can c.args.seed.now.0 (present_of c.self.inside.fabric)))
