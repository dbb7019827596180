use Rattle.std.proofs.Common.{sym}
use Rattle.block_registers.proofs.SlotLemmas.{bank_at-past, registers_in-set_past, outcome-nowhere}
use Rattle.block_registers.proofs.slots.operate_at.Goals as goal

pub returns-then-port-slots-clause-answer : goal.returns-then-port-slots-clause-answer
returns-then-port-slots-clause-answer g c =
    let bank = g.B.RegisterBank in
    rw (bank_at-past bank.words bank.masks c.args.slots.now c.args.port c.if-port-slots.true)
    (sym (outcome-nowhere c.args.request.now))

pub returns-then-port-slots-clause-slots : goal.returns-then-port-slots-clause-slots
returns-then-port-slots-clause-slots g c = sym (registers_in-set_past _ _ _ _ _ c.if-port-slots.true)
