use Rattle.std.proofs.Common.{sym, subst}
use Rattle.chdr_packets.specs.declared.packet.Packet.{Packet}
use Rattle.fabric_net.specs.Asking.{CanAskNow}
use Rattle.host_talk.specs.Talking.{HasTalked}
use Rattle.topology_walk.proofs.Asking.{fits-of, found-ports, may-ask}
use Rattle.topology_walk.proofs.Probing.{has-probed, source-some}
use Rattle.topology_walk.proofs.probes.probe.Goals as goal

pub talk-requires-clause-can : goal.talk-requires-clause-can
talk-requires-clause-can g c =
    let some = c.stands.ensures (g.B.RegisterSlots.slots c.args.banks.now) in
    let p = c.args.net.now.present in
    subst (λ (packet : Packet). CanAskNow p c.args.source.node packet) (sym c.in_ok-packet.ensures)
    (may-ask p some.0 c.args.source.node c.args.source.epid c.args.node c.args.port c.args.ports.now some.1 c.requires.settled c.requires.source c.requires.leads)

pub returns : goal.returns
returns g c =
    let old = g.B.RegisterSlots.slots c.args.banks.now in
    let left = g.B.RegisterSlots.slots c.talk.new.banks in
    let some = c.stands.ensures old in
    let p = c.args.net.now.present in
    let x = c.args.source.node in
    has-probed c.args.net.now c.talk.new.net old left x c.args.source.epid c.args.node c.args.port c.args.ports.now c.in_ok-answer.answer c.behind.result
    c.stands.ensures c.requires.settled (source-some p some.0 x c.args.source.epid some.1 c.requires.source) c.requires.source c.requires.leads
    (found-ports p.tree (fits-of p some.0 some.1) x c.args.node c.args.port c.args.ports.now c.requires.leads)
    (subst (λ (packet : Packet). HasTalked c.args.net.now old x packet c.in_ok-answer.answer c.talk.new.net left) c.in_ok-packet.ensures c.in_ok-answer.ensures)
    c.behind.ensures
