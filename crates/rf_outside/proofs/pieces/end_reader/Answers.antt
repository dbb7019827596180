use Rattle.std.proofs.Common.{[]}
use Rattle.rf_outside.proofs.PieceLemmas.{on_err, prefix_none}
use Rattle.rf_outside.proofs.pieces.end_reader.Goals as goal

pub returns-in_err-found-clause-prefix : goal.returns-in_err-found-clause-prefix
returns-in_err-found-clause-prefix g c = on_err c.from_residual.result _ (prefix_none (g.K.Sink.written c.args.out.now) (g.R.PieceReader.text c.args.reader []))
