use Rattle.std.proofs.Common.{rules}
use Rattle.block_registers.proofs.RegisterLemmas.{written-more}
use Rattle.block_registers.proofs.operation.write_values.Goals as goal

pub loop-k-preserved : goal.loop-k-preserved
loop-k-preserved g c = record {
  words = rw written-more (rw (← c.loop-k.invariant.words, ← c.loop-k.invariant.masks) c.write.ensures.words);
  masks = search rules;
}
