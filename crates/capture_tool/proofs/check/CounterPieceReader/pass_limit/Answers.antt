use Rattle.std.proofs.Common.{◌≡◌, List, ℕ, Some, sym, subst}
use Rattle.rf_outside.specs.Pieces.{Ends}
use Rattle.capture_tool.specs.Follows.{Checked, seen_after}
use Rattle.capture_tool.proofs.ReaderLemmas.{no_text, saw, counts_long}
use Rattle.capture_tool.proofs.check.CounterPieceReader.pass_limit.Goals as goal

pub returns-clause-ends : goal.returns-clause-ends
returns-clause-ends c = λ more some.
    let none : c.self.inside.room ≡ 0 = subst (λ (s : Checked). s.room ≡ 0) (sym c.self.view_is) c.requires in
    subst (λ (s : Checked). Ends (λ (more : List ℕ). no_text) (seen_after s) more c.args._page.now c.args._page.now (saw c.count_packets-stands.new.counts (Some c.long_fault.result))) c.self.view_is
    (counts_long c.self.inside.decoder c.count_packets-stands.new.decoder c.self.inside.counts c.count_packets-stands.new.counts c.self.inside.room more c.args._page.now c.count_packets-stands.result c.long_fault.result
    none some c.count_packets-stands.ensures.counts c.count_packets-stands.ensures.at c.long_fault.ensures)
