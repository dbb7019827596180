use Rattle.std.proofs.Common.{◌≡◌, Some, sym, subst}
use Rattle.rf_outside.specs.Pieces.{Ends}
use Rattle.capture_tool.specs.Follows.{Listed, listed_after}
use Rattle.capture_tool.proofs.ReaderLemmas.{faults, lists_long}
use Rattle.capture_tool.proofs.show.ListerPieceReader.pass_limit.Goals as goal

pub returns-clause-ends : goal.returns-clause-ends
returns-clause-ends c = λ more some.
    let none : c.self.inside.room ≡ 0 = subst (λ (s : Listed). s.room ≡ 0) (sym c.self.view_is) c.requires in
    subst (λ (s : Listed). Ends (listed_after s) (faults s.decoder s.room) more c.args.page.now c.put_last.new.out (Some c.long_fault.result)) c.self.view_is
    (lists_long c.self.inside.decoder c.list_packets.new.decoder c.self.inside.packets c.list_packets.new.packets c.self.inside.room more c.args.page.now c.list_packets.new.page c.put_last.new.out c.in_ok-stands.stands
    c.long_fault.result none some c.in_ok-stands.ensures.lists c.in_ok-stands.ensures.at c.long_fault.ensures c.in_ok-put_last.ensures)
