use Rattle.std.proofs.Common.{◌≤◌, ◌-◌, length, sym, subst}
use Rattle.rf_outside.specs.Pieces.{ReadsOn}
use Rattle.capture_tool.specs.PcapFollows.{PcapListed, pcap_listed_after, pcap_seen_after}
use Rattle.capture_tool.proofs.PcapReaderLemmas.{pcap_listing, pcap_reads}
use Rattle.capture_tool.proofs.pcap.PcapListerPieceReader.read.Goals as goal

pub returns-clause-on : goal.returns-clause-on
returns-clause-on c =
    let room : length c.args.piece.now ≤ c.self.inside.room = subst (λ (s : PcapListed). length c.args.piece.now ≤ s.room) (sym c.self.view_is) c.requires in
    subst (λ (s : PcapListed). ReadsOn (pcap_listed_after s) (pcap_listed_after (pcap_listing c.list_records.new.reader c.list_records.new.totals (c.self.inside.room - length c.args.piece.now))) (pcap_seen_after s)
    (pcap_seen_after (pcap_listing c.list_records.new.reader c.list_records.new.totals (c.self.inside.room - length c.args.piece.now))) c.args.piece.now c.args.page.now c.list_records.new.page) c.self.view_is
    (pcap_reads c.self.inside.reader c.feed.new.self c.list_records.new.reader c.self.inside.totals c.list_records.new.totals c.self.inside.room c.args.piece.now c.args.page.now c.list_records.new.page room
    c.in_ok-feed.ensures.ok c.in_ok-fault.ensures.lists)
