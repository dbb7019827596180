use Rattle.chdr_stream.proofs.Laws.{keeps_rest, any_cut, same_cut}
use Rattle.chdr_stream.proofs.law.any_cut_gives_the_same.Goals as goal

pub returns : goal.returns
returns c = record { rest = keeps_rest; shown = any_cut; same = same_cut }
