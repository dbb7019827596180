use Rattle.std.proofs.Common.{◌≤◌, ◌-◌, List, ℕ, length, sym, subst}
use Rattle.rf_outside.specs.Pieces.{ReadsOn}
use Rattle.capture_tool.specs.Follows.{Checked, seen_after}
use Rattle.capture_tool.proofs.ReaderLemmas.{checking, no_text, counts_on}
use Rattle.capture_tool.proofs.check.CounterPieceReader.read.Goals as goal

pub returns-clause-on : goal.returns-clause-on
returns-clause-on c =
    let room : length c.args.piece.now ≤ c.self.inside.room = subst (λ (s : Checked). length c.args.piece.now ≤ s.room) (sym c.self.view_is) c.requires in
    subst (λ (s : Checked). ReadsOn (λ (more : List ℕ). no_text) (λ (more : List ℕ). no_text) (seen_after s)
    (seen_after (checking c.count_packets-fault.new.decoder c.count_packets-fault.new.counts (c.self.inside.room - length c.args.piece.now))) c.args.piece.now c.args._page.now c.args._page.now) c.self.view_is
    (counts_on c.self.inside.decoder c.feed.new.self c.count_packets-fault.new.decoder c.self.inside.counts c.count_packets-fault.new.counts c.self.inside.room c.args.piece.now c.args._page.now room
    c.in_ok-feed.ensures.ok c.count_packets-fault.ensures.counts)
