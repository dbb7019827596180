-- A merged word has the value's bit where mask and enables have it, and the old word's elsewhere.
use Rattle.std.proofs.Common.{◌≡◌, ◌<◌, ◌^◌, ◌-◌, ℕ, zero, suc, cond, min, max, nat_eq, arith, w32}
use Rattle.std.specs.Int.{bit_at}
use Rattle.std.proofs.lemmas.Nat.Bits.{bit_at_or, bit_at_and, bit_at_not, bit_at-lt}
use Rattle.block_registers.specs.Registers.{merged}

-- one bit of a merged word
taken : (word value gate : ℕ) → word < 2 → value < 2 → gate < 2 →
    max (min value gate) (min word (1 - gate)) ≡ cond (nat_eq gate 1) value word
taken word value zero w v g = omega arith
taken word value (suc zero) w v g = omega arith
taken word value (suc (suc gate)) w v g = absurd (omega arith)

pub bit_at-merged : (word value gate k : ℕ) → gate < 2 ^ 32 → k < 32 →
    bit_at (merged word value gate) k ≡ cond (nat_eq (bit_at gate k) 1) (bit_at value k) (bit_at word k)
unfolding merged
bit_at-merged word value gate k g h =
    rw (bit_at_or, bit_at_and, bit_at_and, bit_at_not w32 gate k g h)
    (taken (bit_at word k) (bit_at value k) (bit_at gate k) (bit_at-lt word k) (bit_at-lt value k) (bit_at-lt gate k))
