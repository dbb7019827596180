use Rattle.std.proofs.Common.{◌≡◌, ◌≤◌, []}
use Rattle.rf_outside.proofs.PieceLemmas.{Came, Silent}
use Rattle.rf_outside.proofs.pieces.read_pieces.Given as goal

-- what came so far, and what was written of it
abbrev pub invariant-loop-room : goal.invariant-loop-room
invariant-loop-room g l = record {
  came : Came (g.R.PieceReader.text l.fn.reader) (g.R.PieceReader.text l.reader) (g.R.PieceReader.seen l.fn.reader) (g.R.PieceReader.seen l.reader)
      (g.S.Source.left l.initial.src) (g.S.Source.left l.src) (g.K.Sink.written l.initial.out) (g.K.Sink.written l.out);
  silent : Silent (g.R.PieceReader.text l.fn.reader) (g.R.PieceReader.text l.reader) (g.K.Sink.written l.initial.out) (g.K.Sink.written l.out);
  empty : l.page ≡ [];
  room : g.R.PieceReader.room l.reader ≡ l.room;
  reads : g.S.Source.faults l.initial.src ≤ g.S.Source.faults l.src;
  writes : g.K.Sink.faults l.initial.out ≤ g.K.Sink.faults l.out;
}

abbrev pub decreases-loop-room : goal.decreases-loop-room
decreases-loop-room g l = l.room
