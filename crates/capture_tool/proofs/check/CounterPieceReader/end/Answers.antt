use Rattle.std.proofs.Common.{[], List, ℕ, subst}
use Rattle.rf_outside.specs.Pieces.{Ends}
use Rattle.capture_tool.specs.Follows.{Checked, seen_after}
use Rattle.capture_tool.proofs.ReaderLemmas.{no_text, saw, counts_end}
use Rattle.capture_tool.proofs.check.CounterPieceReader.end.Goals as goal

pub returns : goal.returns
returns c =
    subst (λ (s : Checked). Ends (λ (more : List ℕ). no_text) (seen_after s) [] c.args._page.now c.args._page.now (saw c.count_packets-stands.new.counts c.last_fault.result)) c.self.view_is
    (counts_end c.self.inside.decoder c.count_packets-stands.new.decoder c.self.inside.counts c.count_packets-stands.new.counts c.self.inside.room c.args._page.now c.count_packets-stands.result c.last_fault.result
    c.count_packets-stands.ensures.counts c.count_packets-stands.ensures.at c.last_fault.ensures)
