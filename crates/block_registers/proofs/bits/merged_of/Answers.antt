use Rattle.block_registers.specs.Registers.{merged}
use Rattle.block_registers.proofs.BitLemmas.{bit_at-merged}
use Rattle.block_registers.proofs.bits.merged_of.Goals as goal

pub returns-clause-bits : goal.returns-clause-bits
unfolding merged
returns-clause-bits c = λ k h. bit_at-merged c.args.word c.args.value c.args.gate k c.ranges.gate.fits h
