use Rattle.std.proofs.Common.{ℕ, List, [], ◌∷◌, ◌++◌, ◌<◌, ◌∙◌, ap, length, arith}
use Rattle.rf_outside.specs.Bytes.{AddsPrefix}
use Rattle.rf_outside.proofs.PieceLemmas.{on_err, prefix_none}
use Rattle.rf_outside.proofs.pieces.pass_reader_limit.Goals as goal

pub returns-in_err-found-clause-prefix : goal.returns-in_err-found-clause-prefix
returns-in_err-found-clause-prefix g c =
    let none : (more : List ℕ) → 0 < length more → AddsPrefix (g.K.Sink.written c.args.out.now) (g.K.Sink.written c.args.out.now) (g.R.PieceReader.text c.args.reader more)
    = λ more some. prefix_none (g.K.Sink.written c.args.out.now) (g.R.PieceReader.text c.args.reader more) in
    on_err c.from_residual.result _ none

pub returns-clause-silent : goal.returns-clause-silent
returns-clause-silent g c = λ none. c.in_ok-write_text.ensures.silent ((c.in_ok-found.ensures.ends (0 ∷ []) (omega arith)).put ∙ ap (λ (l : List ℕ). l ++ g.R.PieceReader.text c.args.reader (0 ∷ [])) c.requires.empty ∙ none (0 ∷ []))
