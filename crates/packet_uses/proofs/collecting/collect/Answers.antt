-- Each piece is fed, and the packets that it completes are taken.
use Rattle.std.proofs.Common.{◌∙◌, ap}
use Rattle.chdr_stream.specs.Stream.{fed_with}
use Rattle.packet_uses.specs.Collected.{shown}
use Rattle.packet_uses.proofs.CollectLemmas.{follows_next, follows_start, stops}
use Rattle.packet_uses.proofs.collecting.collect.Goals as goal

pub loop-piece-init : goal.loop-piece-init
loop-piece-init c = follows_start c.args.pieces.now c.new-decoder.result c.new-packets.result c.new-decoder.ensures c.new-packets.ensures

pub returns-in-Some : goal.returns-in-Some
returns-in-Some c =
    stops c.args.pieces.now c.loop-piece.piece-index c.loop-piece.decoder c.feed.new.self c.loop-piece.packets c.piece-item.result (shown (record { packets = c.take_packets.new.packets; end = c.in-Some.end }))
    c.loop-piece-test.true c.piece-item.is (c.in_ok-feed.ensures.ok ∙ ap (fed_with c.loop-piece.decoder) c.as_slice.ensures) (rw c.in-Some.is at c.in_ok-take_packets.ensures.takes) c.loop-piece.invariant

pub loop-piece-preserved : goal.loop-piece-preserved
loop-piece-preserved c =
    follows_next c.args.pieces.now c.loop-piece.piece-index c.loop-piece.decoder c.feed.new.self c.take_packets.new.decoder c.loop-piece.packets c.take_packets.new.packets c.piece-item.result
    c.loop-piece-test.true c.piece-item.is (c.in_ok-feed.ensures.ok ∙ ap (fed_with c.loop-piece.decoder) c.as_slice.ensures) (rw c.in-None.is at c.in_ok-take_packets.ensures.takes) c.take_packets.ensures.place
    c.loop-piece.invariant
