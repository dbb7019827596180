use Rattle.std.proofs.Common.{◌≡◌, true}
use Rattle.block_registers.specs.Operations.{are_registers, words_from}
use Rattle.block_registers.proofs.operation.read_block.Given as goal

-- the registers before this one are there, and read
abbrev pub invariant-loop-k : goal.invariant-loop-k
invariant-loop-k g l = record {
  there : are_registers (g.B.RegisterBank.words l.bank) l.addr l.k ≡ true;
  read : l.words ≡ words_from (g.B.RegisterBank.words l.bank) l.addr l.k;
}
