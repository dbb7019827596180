use Rattle.std.proofs.Common.{◌≡◌}
use Rattle.chdr_words.specs.Field.{words_at}
use Rattle.chdr_packets.proofs.decoding.mdata_of.Given as goal

abbrev pub invariant-loop-k : goal.invariant-loop-k
invariant-loop-k l = l.mdata ≡ words_at l.b l.at l.k
