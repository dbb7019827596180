use Rattle.chdr_words.proofs.ManagementLemmas.{Cut}
use Rattle.chdr_words.proofs.management.hops_of.Given as goal

abbrev pub invariant-loop-k : goal.invariant-loop-k
invariant-loop-k l = Cut l.b l.words l.k l.hops l.hop
