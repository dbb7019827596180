use Rattle.std.proofs.Common.{◌+◌, ◌*◌, arith}
use Rattle.block_registers.proofs.RegisterLemmas.{is_register-none, is_register-some, are_registers-more, are_registers-missing, words_from-step, length-words_from}
use Rattle.block_registers.proofs.operation.read_block.Goals as goal

pub returns-in_err-read : goal.returns-in_err-read
returns-in_err-read g c =
    let words = g.B.RegisterBank.words c.args.bank.now in
    let addr = c.args.addr + 4 * c.loop-k.k in
    rw (are_registers-missing words c.args.addr c.args.count c.loop-k.k c.loop-k-test.true
    (is_register-none words addr c.in_err-read.ensures))
    c.from_residual.ensures

pub push-requires : goal.push-requires
push-requires g c = rw (c.loop-k.invariant.read, length-words_from) (omega arith)

pub loop-k-preserved : goal.loop-k-preserved
loop-k-preserved g c =
    let words = g.B.RegisterBank.words c.args.bank.now in
    let addr = c.args.addr + 4 * c.loop-k.k in
    let read = is_register-some words addr c.in_ok-read.field-0 c.in_ok-read.ensures in
    record {
      there = rw (are_registers-more words c.args.addr c.loop-k.k, c.loop-k.invariant.there) read.0;
      read = words_from-step words c.args.addr c.loop-k.k _ _ _ read.1 c.loop-k.invariant.read c.push.ensures;
    }
