use Rattle.std.proofs.Common.{sym}
use Rattle.block_registers.proofs.SlotLemmas.{bank_at-past, registers_in-set_past}
use Rattle.block_registers.proofs.slots.take_from.Goals as goal

pub returns-then-port-slots-clause-given : goal.returns-then-port-slots-clause-given
returns-then-port-slots-clause-given g c = sym (bank_at-past _ _ _ _ c.if-port-slots.true)

pub returns-then-port-slots-clause-slots : goal.returns-then-port-slots-clause-slots
returns-then-port-slots-clause-slots g c = sym (registers_in-set_past _ _ _ _ _ c.if-port-slots.true)
