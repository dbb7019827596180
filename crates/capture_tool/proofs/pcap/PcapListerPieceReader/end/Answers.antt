use Rattle.std.proofs.Common.{[], refl, subst}
use Rattle.rf_outside.specs.Pieces.{Ends}
use Rattle.capture_tool.specs.PcapFollows.{PcapListed, pcap_listed_after, pcap_seen_after}
use Rattle.capture_tool.proofs.PcapReaderLemmas.{pcap_ends, pcap_saw}
use Rattle.capture_tool.proofs.pcap.PcapListerPieceReader.end.Goals as goal

pub returns : goal.returns
returns c =
    subst (λ (s : PcapListed). Ends (pcap_listed_after s) (pcap_seen_after s) [] c.args.page.now c.put_seen.new.page (pcap_saw c.list_records.new.totals c.pcap_last_fault.result)) c.self.view_is
    (pcap_ends c.self.inside.reader c.list_records.new.reader c.self.inside.totals c.list_records.new.totals c.self.inside.room c.args.page.now c.list_records.new.page c.put_seen.new.page
    (pcap_saw c.list_records.new.totals c.pcap_last_fault.result) c.in_ok-stands.stands c.pcap_last_fault.result c.in_ok-stands.ensures.lists c.in_ok-stands.ensures.at c.pcap_last_fault.ensures refl c.in_ok-put_seen.ensures)
