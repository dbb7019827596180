use Rattle.std.proofs.Common.{◌≡◌, ◌++◌, take}
use Rattle.std.specs.Int.{w64, to_le_bytes}
use Rattle.chdr_words.specs.Field.{words_bytes}
use Rattle.chdr_words.specs.Management.{hops_words}
use Rattle.chdr_words.proofs.management.write.Given as goal

abbrev pub invariant-loop-hop : goal.invariant-loop-hop
invariant-loop-hop l = l.out.items ≡ to_le_bytes w64 l.head ++ words_bytes (hops_words (take l.hop-index l.v.hops))
