use Rattle.std.proofs.Common.{sym, ◌∙◌, subst, Some, None}
use Rattle.chdr_packets.specs.declared.packet.Packet.{Packet}
use Rattle.fabric_net.specs.Asking.{CanAskNow}
use Rattle.ctrl_transactions.proofs.Asking.{asked-as, host-node, may-ask-as}
use Rattle.ctrl_transactions.proofs.host.Host.transact.Goals as goal

pub talk-requires-clause-can : goal.talk-requires-clause-can
talk-requires-clause-can g c =
    let some = c.stands.ensures (g.B.RegisterSlots.slots c.args.banks.now) in
    let p = c.args.net.now.present in
    subst (λ (packet : Packet). CanAskNow p c.in-Some.node packet) (sym c.request-packet.ensures)
    (may-ask-as p some.0 (record { epid = c.self.inside.epid; seq = c.self.inside.seq }) c.args.self.now c.args.dst c.args.request.now c.in-Some.node c.self.view_is some.1
    c.requires.settled c.self.invariant c.requires.fits c.requires.asks
    (host-node p.tree c.self.inside.epid c.in-Some.node c.in-Some.field-0-1 (sym c.host.ensures ∙ c.in-Some.is)) (c.reaches.ensures.0 c.if-not-reaches.false))

pub returns-in-Some-acknowledged : goal.returns-in-Some-acknowledged
returns-in-Some-acknowledged g c =
    asked-as (record { epid = c.self.inside.epid; seq = c.self.inside.seq }) c.args.self.now c.args.net.now c.talk.new.net
    (g.B.RegisterSlots.slots c.args.banks.now) (g.B.RegisterSlots.slots c.talk.new.banks) c.args.dst c.args.request.now c.in-Some.node c.request-packet.result
    c.in_ok-answer.answer (Some c.in-Some-acknowledged.control) c.self.view_is c.stands.ensures c.requires.settled c.requires.asks
    (host-node c.args.net.now.present.tree c.self.inside.epid c.in-Some.node c.in-Some.field-0-1 (sym c.host.ensures ∙ c.in-Some.is))
    (c.reaches.ensures.0 c.if-not-reaches.false) (c.reaches-2.ensures.0 c.if-not-reaches-2.false) c.request-packet.ensures c.in_ok-answer.ensures
    (sym c.in-Some-acknowledged.is ∙ c.acknowledged.ensures)

pub returns : goal.returns
returns g c =
    asked-as (record { epid = c.self.inside.epid; seq = c.self.inside.seq }) c.args.self.now c.args.net.now c.talk.new.net
    (g.B.RegisterSlots.slots c.args.banks.now) (g.B.RegisterSlots.slots c.talk.new.banks) c.args.dst c.args.request.now c.in-Some.node c.request-packet.result
    c.in_ok-answer.answer None c.self.view_is c.stands.ensures c.requires.settled c.requires.asks
    (host-node c.args.net.now.present.tree c.self.inside.epid c.in-Some.node c.in-Some.field-0-1 (sym c.host.ensures ∙ c.in-Some.is))
    (c.reaches.ensures.0 c.if-not-reaches.false) (c.reaches-2.ensures.0 c.if-not-reaches-2.false) c.request-packet.ensures c.in_ok-answer.ensures
    (sym c.in-None-acknowledged.is ∙ c.acknowledged.ensures)
