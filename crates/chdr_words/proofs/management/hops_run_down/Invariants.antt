use Rattle.chdr_words.proofs.ManagementLemmas.{Tested}
use Rattle.chdr_words.proofs.management.hops_run_down.Given as goal

abbrev pub invariant-loop-k : goal.invariant-loop-k
invariant-loop-k l = Tested l.b l.words l.k l.pending l.hops
