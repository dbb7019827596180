use Rattle.std.proofs.Common.{◌≡◌, None, replicate, vec_len}
use Rattle.block_registers.proofs.banks.Banks.new.Given as goal

-- so many empty slots
abbrev pub invariant-loop-count : goal.invariant-loop-count
invariant-loop-count g l = record { items : l.slots.items ≡ replicate l._count None; len : vec_len l.slots ≡ l._count }
