use Rattle.std.proofs.Common.{◌≡◌, true}
use Rattle.block_registers.specs.Operations.{are_registers}
use Rattle.block_registers.proofs.operation.has_block.Given as goal

-- the registers before this one are there
abbrev pub invariant-loop-k : goal.invariant-loop-k
invariant-loop-k g l = are_registers (g.B.RegisterBank.words l.bank) l.addr l.k ≡ true
