use Rattle.std.proofs.Common.{◌/◌, ◌%◌, List, sym, ◌∙◌, ap, subst}
use Rattle.net_topology.specs.Links.{end_of}
use Rattle.net_machine.specs.Front.{Queued}
use Rattle.net_machine.specs.Passing.{passing}
use Rattle.net_present.specs.Onward.{Held}
use Rattle.net_needs.specs.Hopping.{BodyNeeds, HasWayOn}
use Rattle.fabric_events.specs.Fabrics.{present_of}
use Rattle.fabric_events.specs.Ready.{HasAnswerRoom}
use Rattle.fabric_events.proofs.EventLemmas.{sound_queues}
use Rattle.fabric_events.proofs.PassLemmas.{body_kept, hop_is, no_entry, same_entry, way_kept}
use Rattle.fabric_events.proofs.fabric.Fabric.hop.Goals as goal

pub pass-requires-clause-sound : goal.pass-requires-clause-sound
pass-requires-clause-sound g c =
    let q = c.requires.needs.queue in
    sound_queues c.args.self.now c.pop.new.self c.args.q q.rest c.requires.sound (c.pop.ensures.front q.front q.rest q.is).1 c.pop.ensures.room

pub pass-requires-clause-way : goal.pass-requires-clause-way
pass-requires-clause-way g c =
    let p = present_of c.args.self.now in
    let q = c.requires.needs.queue in
    let both = c.pop.ensures.front q.front q.rest q.is in
    let front = same_entry q.front c.in-Some.entry (sym both.0 ∙ c.in-Some.is) in
    subst (λ (e : Queued). HasWayOn (record p { queues = c.pop.new.self.entries }) (c.args.q % 2) (passing p.tree p.nodes (c.args.q / 2) e.packet).outcome) front
    (subst (λ (es : List (List Queued)). HasWayOn (record p { queues = es }) (c.args.q % 2) (passing p.tree p.nodes (c.args.q / 2) q.front.packet).outcome) (sym both.1)
    (way_kept p c.args.q (c.args.q % 2) q.front q.rest (passing p.tree p.nodes (c.args.q / 2) q.front.packet).outcome q.is c.requires.needs.goes))

pub pass-requires-clause-body : goal.pass-requires-clause-body
pass-requires-clause-body g c =
    let p = present_of c.args.self.now in
    let q = c.requires.needs.queue in
    let both = c.pop.ensures.front q.front q.rest q.is in
    let front = same_entry q.front c.in-Some.entry (sym both.0 ∙ c.in-Some.is) in
    subst (λ (e : Queued). BodyNeeds (record p { queues = c.pop.new.self.entries }) (end_of p.tree.links (c.args.q / 2)) e.packet e.packet.body) front
    (body_kept p c.pop.new.self.entries (end_of p.tree.links (c.args.q / 2)) q.front.packet q.front.packet.body c.requires.needs.body)

pub pass-requires-clause-answers : goal.pass-requires-clause-answers
pass-requires-clause-answers g c =
    let q = c.requires.needs.queue in
    let both = c.pop.ensures.front q.front q.rest q.is in
    let front = same_entry q.front c.in-Some.entry (sym both.0 ∙ c.in-Some.is) in
    subst (λ (e : Queued). HasAnswerRoom c.args.room e.packet) front (c.requires.ready.answers q.front q.rest q.is)

pub unreachable-requires : goal.unreachable-requires
unreachable-requires g c =
    let q = c.requires.needs.queue in
    no_entry q.front (sym c.in-None.is ∙ (c.pop.ensures.front q.front q.rest q.is).0)

pub returns-clause-present : goal.returns-clause-present
returns-clause-present g c =
    let p = present_of c.args.self.now in
    let q = c.requires.needs.queue in
    let both = c.pop.ensures.front q.front q.rest q.is in
    let front = same_entry q.front c.in-Some.entry (sym both.0 ∙ c.in-Some.is) in
    c.pass.ensures.present
    ∙ ap (λ (h : Held). h.present) (hop_is p c.args.q q.front c.in-Some.entry q.rest c.pop.new.self.entries (g.B.RegisterSlots.slots c.args.banks.now) q.is front both.1)

pub returns-clause-banks : goal.returns-clause-banks
returns-clause-banks g c =
    let p = present_of c.args.self.now in
    let q = c.requires.needs.queue in
    let both = c.pop.ensures.front q.front q.rest q.is in
    let front = same_entry q.front c.in-Some.entry (sym both.0 ∙ c.in-Some.is) in
    c.pass.ensures.banks
    ∙ ap (λ (h : Held). h.banks) (hop_is p c.args.q q.front c.in-Some.entry q.rest c.pop.new.self.entries (g.B.RegisterSlots.slots c.args.banks.now) q.is front both.1)
