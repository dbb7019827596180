use Rattle.std.proofs.Common.{◌≤◌, ◌-◌, length, sym, subst, ap, Ok}
use Rattle.rf_outside.specs.Pieces.{ReadsOn}
use Rattle.capture_tool.specs.Follows.{Listed, listed_after}
use Rattle.capture_tool.proofs.ReaderLemmas.{listing, faults, lists_on}
use Rattle.capture_tool.proofs.show.ListerPieceReader.read.Goals as goal

pub returns-clause-on : goal.returns-clause-on
returns-clause-on c =
    let room : length c.args.piece.now ≤ c.self.inside.room = subst (λ (s : Listed). length c.args.piece.now ≤ s.room) (sym c.self.view_is) c.requires in
    subst (λ (s : Listed). ReadsOn (listed_after s) (listed_after (listing c.list_packets.new.decoder c.list_packets.new.packets (c.self.inside.room - length c.args.piece.now))) (faults s.decoder s.room)
    (faults c.list_packets.new.decoder (c.self.inside.room - length c.args.piece.now)) c.args.piece.now c.args.page.now c.list_packets.new.page) c.self.view_is
    (lists_on c.self.inside.decoder c.feed.new.self c.list_packets.new.decoder c.self.inside.packets c.list_packets.new.packets c.self.inside.room c.args.piece.now c.args.page.now c.list_packets.new.page room
    c.in_ok-feed.ensures.ok c.in_ok-fault.ensures.lists)
