use Rattle.block_registers.proofs.RegisterLemmas.{written-if_found}
use Rattle.block_registers.proofs.operation.write_first.Goals as goal

pub returns-clause-words : goal.returns-clause-words
returns-clause-words g c =
    written-if_found _ _ _ _ _ c.write.ensures.found (rw (← c.as_slice-values.ensures) c.write.ensures.words)
