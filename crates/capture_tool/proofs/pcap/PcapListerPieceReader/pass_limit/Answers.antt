use Rattle.std.proofs.Common.{◌≡◌, Some, refl, sym, subst}
use Rattle.rf_outside.specs.Pieces.{Ends}
use Rattle.capture_tool.specs.PcapFollows.{PcapListed, pcap_listed_after, pcap_seen_after}
use Rattle.capture_tool.proofs.PcapReaderLemmas.{pcap_passes, pcap_saw}
use Rattle.capture_tool.proofs.pcap.PcapListerPieceReader.pass_limit.Goals as goal

pub returns-clause-ends : goal.returns-clause-ends
returns-clause-ends c = λ more some.
    let none : c.self.inside.room ≡ 0 = subst (λ (s : PcapListed). s.room ≡ 0) (sym c.self.view_is) c.requires in
    subst (λ (s : PcapListed). Ends (pcap_listed_after s) (pcap_seen_after s) more c.args.page.now c.put_seen.new.page (pcap_saw c.list_records.new.totals (Some c.long_fault.result))) c.self.view_is
    (pcap_passes c.self.inside.reader c.list_records.new.reader c.self.inside.totals c.list_records.new.totals c.self.inside.room more c.args.page.now c.list_records.new.page c.put_seen.new.page
    (pcap_saw c.list_records.new.totals (Some c.long_fault.result)) c.in_ok-stands.stands c.long_fault.result none some c.in_ok-stands.ensures.lists c.in_ok-stands.ensures.at c.long_fault.ensures refl c.in_ok-put_seen.ensures)
