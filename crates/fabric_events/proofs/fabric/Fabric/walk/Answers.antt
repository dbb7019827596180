use Rattle.std.proofs.Common.{ℕ, Option, ◌∙◌, ap, subst}
use Rattle.net_machine.specs.Passing.{Passing}
use Rattle.net_needs.specs.Hopping.{HasWayOn}
use Rattle.fabric_events.specs.Fabrics.{present_of}
use Rattle.fabric_events.specs.Ready.{ServesIf}
use Rattle.fabric_events.specs.Walking.{moves_by}
use Rattle.fabric_events.proofs.WalkLemmas.{walk_ends, walk_performs, with_banks}
use Rattle.fabric_events.proofs.fabric.Fabric.walk.Goals as goal

pub perform-requires-clause-answers : goal.perform-requires-clause-answers
perform-requires-clause-answers c m is = subst (λ (o : Option ℕ). ServesIf o m) c.in-Some.is (c.requires.answers m is)

pub perform-requires-clause-way : goal.perform-requires-clause-way
perform-requires-clause-way c m is =
    let p = present_of c.args.self.now in
    let serves = subst (λ (o : Option ℕ). ServesIf o m) c.in-Some.is (c.requires.answers m is) in
    subst (λ (w : Passing). HasWayOn p c.args.vc w.outcome) (walk_performs p.tree p.nodes c.args.d c.args.entry.packet m serves.hops) (c.requires.way m is)

pub returns-in-Some-clause-goes : goal.returns-in-Some-clause-goes
returns-in-Some-clause-goes c m banks is =
    let p = present_of c.args.self.now in
    let serves = subst (λ (o : Option ℕ). ServesIf o m) c.in-Some.is (c.requires.answers m is) in
    ap (λ (w : Passing). moves_by c.args.d c.args.vc c.args.entry w (with_banks p banks))
    (walk_performs p.tree p.nodes c.args.d c.args.entry.packet m serves.hops)
    ∙ c.perform.ensures.goes m banks is

pub returns-in-None-clause-goes : goal.returns-in-None-clause-goes
returns-in-None-clause-goes c m banks is =
    let p = present_of c.args.self.now in
    let few = subst (λ (o : Option ℕ). ServesIf o m) c.in-None.is (c.requires.answers m is) in
    ap (λ (w : Passing). moves_by c.args.d c.args.vc c.args.entry w (with_banks p banks)) (walk_ends p.tree p.nodes c.args.d c.args.entry.packet m few)
