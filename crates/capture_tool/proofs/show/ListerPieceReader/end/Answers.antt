use Rattle.std.proofs.Common.{[], subst}
use Rattle.rf_outside.specs.Pieces.{Ends}
use Rattle.capture_tool.specs.Follows.{Listed, listed_after}
use Rattle.capture_tool.proofs.ReaderLemmas.{faults, lists_end}
use Rattle.capture_tool.proofs.show.ListerPieceReader.end.Goals as goal

pub returns : goal.returns
returns c =
    subst (λ (s : Listed). Ends (listed_after s) (faults s.decoder s.room) [] c.args.page.now c.put_last.new.out c.last_fault-fault.result) c.self.view_is
    (lists_end c.self.inside.decoder c.list_packets.new.decoder c.self.inside.packets c.list_packets.new.packets c.self.inside.room c.args.page.now c.list_packets.new.page c.put_last.new.out c.in_ok-stands.stands
    c.last_fault-fault.result c.in_ok-stands.ensures.lists c.in_ok-stands.ensures.at c.last_fault-fault.ensures c.in_ok-put_last.ensures)
