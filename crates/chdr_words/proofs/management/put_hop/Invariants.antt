use Rattle.std.proofs.Common.{◌≡◌, ◌+◌, ◌++◌, length, drop}
use Rattle.chdr_words.specs.Field.{words_bytes}
use Rattle.chdr_words.specs.Management.{hop_words}
use Rattle.chdr_words.proofs.management.put_hop.Given as goal

abbrev pub invariant-loop-op : goal.invariant-loop-op
invariant-loop-op l = record {
  left : l.pending + l.op-index ≡ length l.hop;
  bytes : l.out.items ++ words_bytes (hop_words (drop l.op-index l.hop)) ≡ l.fn.out.items ++ words_bytes (hop_words l.hop);
}
