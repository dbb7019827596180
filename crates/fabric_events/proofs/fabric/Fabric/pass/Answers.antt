use Rattle.std.proofs.Common.{◌≡◌, sym, ◌∙◌, ap, subst, Some}
use Rattle.net_machine.specs.Front.{Queued}
use Rattle.net_machine.specs.Passing.{Passing}
use Rattle.net_present.specs.Onward.{Held}
use Rattle.fabric_events.specs.Fabrics.{present_of}
use Rattle.fabric_nodes.specs.Exits.{walking_of}
use Rattle.fabric_events.specs.Walking.{moves_by}
use Rattle.fabric_events.proofs.PassLemmas.{passing_walks, walker_body}
use Rattle.fabric_events.proofs.WalkLemmas.{with_banks}
use Rattle.fabric_events.proofs.fabric.Fabric.pass.Goals as goal

pub returns-in-Some-clause-present : goal.returns-in-Some-clause-present
returns-in-Some-clause-present g c =
    let p = present_of c.args.self.now in
    let packet = c.args.entry.packet in
    let banks = g.B.RegisterSlots.slots c.args.banks.now in
    let walker = subst (λ (e : Queued). walking_of e.packet e.packet.body ≡ Some c.in-Some.field-0.now) c.entry.view_is (sym c.in-Some.ensures) in
    let is = walker_body packet packet.body c.in-Some.field-0.now walker in
    sym (ap (λ (h : Held). h.present) (ap (λ (w : Passing). moves_by c.args.d c.args.vc c.args.entry w (with_banks p banks))
    (passing_walks p.tree p.nodes c.args.d packet c.in-Some.field-0.now c.in-Some.field-0.now walker is)
    ∙ c.walk.ensures.goes c.in-Some.field-0.now banks is))
