use Rattle.std.proofs.Common.{◌≡◌}
use Rattle.block_registers.specs.Registers.{written}
use Rattle.block_registers.specs.Operations.{changes}
use Rattle.block_registers.proofs.operation.write_values.Given as goal

-- the values before this one are written
abbrev pub invariant-loop-k : goal.invariant-loop-k
invariant-loop-k g l = record {
  words : g.B.RegisterBank.words l.bank ≡
      written (g.B.RegisterBank.masks l.initial.bank) (g.B.RegisterBank.words l.initial.bank) (changes l.enables l.addr l.values l.k);
  masks : g.B.RegisterBank.masks l.bank ≡ g.B.RegisterBank.masks l.initial.bank;
}
