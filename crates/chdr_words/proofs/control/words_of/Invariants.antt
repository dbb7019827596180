use Rattle.std.proofs.Common.{◌≡◌}
use Rattle.chdr_words.specs.Field.{halves_at}
use Rattle.chdr_words.proofs.control.words_of.Given as goal

abbrev pub invariant-loop-k : goal.invariant-loop-k
invariant-loop-k l = l.words ≡ halves_at l.bytes l.at l.k
