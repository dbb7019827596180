use Rattle.std.proofs.Common.{sym, ap, ◌∙◌, is_some}
use Rattle.block_registers.proofs.RegisterLemmas.{is_some-register, are_registers-more, are_registers-missing}
use Rattle.block_registers.proofs.operation.has_block.Goals as goal

pub returns-then-is_none : goal.returns-then-is_none
returns-then-is_none g c =
    let words = g.B.RegisterBank.words c.args.bank.now in
    sym (are_registers-missing words _ _ c.loop-k.k c.loop-k-test.true
    (sym (is_some-register words _) ∙ ap is_some (sym c.read.ensures) ∙ c.if-is_none.ensures))

pub loop-k-preserved : goal.loop-k-preserved
loop-k-preserved g c =
    let words = g.B.RegisterBank.words c.args.bank.now in
    rw (are_registers-more words c.args.addr c.loop-k.k, c.loop-k.invariant)
    (sym (is_some-register words _) ∙ ap is_some (sym c.read.ensures) ∙ c.if-is_none.ensures)
