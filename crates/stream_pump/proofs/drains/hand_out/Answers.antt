use Rattle.std.proofs.Common.{List, subst, sym, arith, ◌∙◌, ◌<◌, length}
use Rattle.chdr_packets.specs.declared.packet.Packet.{Packet}
use Rattle.net_present.specs.Onward.{on_now}
use Rattle.net_present.specs.Present.{Present}
use Rattle.fabric_parts.specs.Streams.{hands_now}
use Rattle.stream_pump.specs.Drains.{HandsOut}
use Rattle.stream_pump.proofs.Draining.{IsHanding, handing-done, handing-drain, handing-more}
use Rattle.stream_pump.proofs.drains.hand_out.Goals as goal

pub loop-packet-preserved : goal.loop-packet-preserved
loop-packet-preserved c =
    let p = c.args.net.now.present in
    let q = c.loop-packet.net.present in
    let s = c.args.s in
    let hands = c.loop-packet.invariant.hands in
    let same = hands.run.streams in
    let there : s < length q.streams = let was = c.requires.there in omega (arith, same, was) in
    let more = handing-more s p q c.args.drain.now c.loop-packet.drain c.in-Some.packet there hands (sym c.hand.ensures.packet ∙ c.in-Some.is) in
    record {
      hands = subst (λ (r : Present). IsHanding s p r c.args.drain.now c.push.new.self) (sym c.hand.ensures.present)
          (subst (λ (ps : List Packet). IsHanding s p (on_now s hands_now q) c.args.drain.now ps) (sym c.in_ok-push.ensures.ok) more);
      machine = λ w stands. c.hand.ensures.machine w (c.loop-packet.invariant.machine w stands);
      journal = c.hand.ensures.journal ∙ c.loop-packet.invariant.journal;
    }

pub returns-clause-drain : goal.returns-clause-drain
returns-clause-drain c =
    handing-drain c.args.s c.args.net.now.present c.loop-packet.net.present c.args.drain.now c.loop-packet.drain c.loop-packet.invariant.hands
    (sym c.hand.ensures.packet ∙ c.in_default.is)

pub returns-clause-hands : goal.returns-clause-hands
returns-clause-hands c =
    let p = c.args.net.now.present in
    let q = c.loop-packet.net.present in
    let s = c.args.s in
    let hands = c.loop-packet.invariant.hands in
    let same = hands.run.streams in
    let there : s < length q.streams = let was = c.requires.there in omega (arith, same, was) in
    subst (λ (r : Present). HandsOut s p r) (sym c.hand.ensures.present)
    (handing-done s p q c.args.drain.now c.loop-packet.drain there hands (sym c.hand.ensures.packet ∙ c.in_default.is))
