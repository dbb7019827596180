use Rattle.std.proofs.Common.{List, [], ◌++◌, sym, ◌∙◌, subst, ap}
use Rattle.chdr_packets.specs.declared.packet.Packet.{Packet}
use Rattle.fabric_net.specs.Asking.{CanAskNow}
use Rattle.route_writes.specs.declared.steps.Step.{Step}
use Rattle.route_writes.specs.Steps.{way_steps}
use Rattle.route_writes.specs.Writes.{Desk, HasCrossed}
use Rattle.route_writes.specs.Planned.{route_at}
use Rattle.route_writes.proofs.Crossing.{can-cross, has-crossed, host-linked, packet-is, some-steps}
use Rattle.route_writes.proofs.writes.write_at.Goals as goal

pub write_packet-requires : goal.write_packet-requires
write_packet-requires g c =
    let tree = c.args.net.now.present.tree in
    let it = c.requires.crossing in
    let steps = c.as_slice.ensures ∙ c.in_ok-add_way.ensures tree it.2.route.is_tree it.2.found
    ∙ ap (λ (ss : List Step). ss ++ way_steps tree c.args.ends.node c.args.before.node) c.new-steps.ensures in
    some-steps tree c.args.nodes.now c.args.ends c.args.before c.args.behind it.0 it.1 it.2 c.as_slice.result.now steps

pub talk-requires-clause-can : goal.talk-requires-clause-can
talk-requires-clause-can g c =
    let tree = c.args.net.now.present.tree in
    let some = c.stands.ensures (g.B.RegisterSlots.slots c.args.banks.now) in
    let it = c.requires.crossing in
    let steps = c.as_slice.ensures ∙ c.in_ok-add_way.ensures tree it.2.route.is_tree it.2.found
    ∙ ap (λ (ss : List Step). ss ++ way_steps tree c.args.ends.node c.args.before.node) c.new-steps.ensures in
    subst (λ (p : Packet). CanAskNow c.args.net.now.present c.args.ends.node p)
    (sym (c.in_ok-packet.ensures ∙ packet-is tree c.args.nodes.now c.args.ends c.args.before c.args.behind it.0 it.1 [] it.2 c.as_slice.result.now steps))
    (can-cross c.args.net.now.present some.0 c.args.nodes.now c.args.ends c.args.before c.args.behind it.0 it.1 [] some.1 c.requires.settled it.2)

pub talk-requires-clause-linked : goal.talk-requires-clause-linked
talk-requires-clause-linked g c =
    let it = c.requires.crossing in
    host-linked c.args.net.now.present.tree c.args.nodes.now c.args.ends c.args.before c.args.behind it.0 it.1 it.2

pub returns : goal.returns
returns g c d e it =
    let tree = c.args.net.now.present.tree in
    let old : Desk = record { net = c.args.net.now; banks = g.B.RegisterSlots.slots c.args.banks.now } in
    let new : Desk = record { net = c.talk.new.net; banks = g.B.RegisterSlots.slots c.talk.new.banks } in
    let steps = c.as_slice.ensures ∙ c.in_ok-add_way.ensures tree it.route.is_tree it.found
    ∙ ap (λ (ss : List Step). ss ++ way_steps tree c.args.ends.node c.args.before.node) c.new-steps.ensures in
    subst (λ b. HasCrossed (route_at tree c.args.ends) d e b old new) (sym c.is_some.ensures)
    (has-crossed old new c.args.nodes.now c.args.ends c.args.before c.args.behind d e c.in_ok-packet.packet c.in_ok-answer.answer
    c.stands.ensures c.requires.settled it
    (c.in_ok-packet.ensures ∙ packet-is tree c.args.nodes.now c.args.ends c.args.before c.args.behind d e [] it c.as_slice.result.now steps) c.in_ok-answer.ensures)
