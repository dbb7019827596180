use Rattle.std.proofs.Common.{◌+◌, arith, length, refl, sym, ap, ◌∙◌}
use Rattle.net_present.specs.Present.{Present}
use Rattle.stream_rounds.specs.Presents.{at}
use Rattle.stream_rounds.proofs.Handing.{fewer-wait, handed-all, handed-present, handing-more, handing-room, handing-there}
use Rattle.stream_rounds.proofs.outlet.hand_all.Goals as goal

pub put-requires-clause-room : goal.put-requires-clause-room
put-requires-clause-room c =
    handing-room c.args.stream c.args.net.now.present c.loop-packet.net.present c.args.tx.now c.loop-packet.tx c.loop-packet.put c.in-Some.packet
    c.loop-packet.invariant.hands (sym c.hand.ensures.packet ∙ c.in-Some.is) c.requires.room

pub loop-packet-smaller : goal.loop-packet-smaller
loop-packet-smaller c =
    let q = c.loop-packet.net.present in
    let s = c.args.stream in
    let there = handing-there s c.args.net.now.present q c.args.tx.now c.loop-packet.tx c.loop-packet.put c.requires.there c.loop-packet.invariant.hands in
    let fewer = fewer-wait s q c.in-Some.packet there (sym c.hand.ensures.packet ∙ c.in-Some.is) in
    let same = ap (λ (p : Present). length (at p s).waiting) c.hand.ensures.present in
    omega (arith, fewer, same)

pub loop-packet-preserved : goal.loop-packet-preserved
loop-packet-preserved c =
    let hands = c.loop-packet.invariant.hands in record {
      hands = handing-more c.args.stream c.args.net.now.present c.loop-packet.net.present c.hand.new.self.present c.args.tx.now c.loop-packet.tx c.put.new.self
          c.loop-packet.put (c.loop-packet.put + 1) c.in-Some.packet c.requires.there hands (sym c.hand.ensures.packet ∙ c.in-Some.is)
          c.put.ensures.put c.put.ensures.lane c.put.ensures.kept refl c.hand.ensures.present;
      machine = λ w stands. c.hand.ensures.machine w (c.loop-packet.invariant.machine w stands);
      journal = c.hand.ensures.journal ∙ c.loop-packet.invariant.journal;
    }

pub returns-clause-put : goal.returns-clause-put
returns-clause-put c =
    handed-all c.args.stream c.args.net.now.present c.loop-packet.net.present c.args.tx.now c.loop-packet.tx c.loop-packet.put
    c.loop-packet.invariant.hands (sym c.hand.ensures.packet ∙ c.in_default.is)

pub returns-clause-present : goal.returns-clause-present
returns-clause-present c =
    handed-present c.args.stream c.args.net.now.present c.loop-packet.net.present c.hand.new.self.present c.args.tx.now c.loop-packet.tx c.loop-packet.put
    c.requires.there c.loop-packet.invariant.hands (sym c.hand.ensures.packet ∙ c.in_default.is) c.hand.ensures.present
