use Rattle.std.proofs.Common.{◌+◌, List, arith, subst, sym, take}
use Rattle.script_books.specs.declared.book.Book.{Book}
use Rattle.script_runner.specs.Performed.{IsOneThreadSoFar}
use Rattle.script_runner.proofs.Lists.{IsSoFar, begins, goes-on, on-err, performed-so-far}
use Rattle.script_runner.proofs.script.perform_all.Goals as goal

pub loop-command-init : goal.loop-command-init
loop-command-init g c = rw c.requires.empty (begins (g.B.RegisterSlots.slots c.args.banks.now) c.new-world.result c.new-world.ensures)

pub returns-in_err-book-clause-begun : goal.returns-in_err-book-clause-begun
returns-in_err-book-clause-begun g c = on-err c.from_residual.result
    (performed-so-far (g.B.RegisterSlots.slots c.args.banks.now) c.args.commands.now c.loop-command.command-index c.loop-command.books c.loop-command.world
    (g.B.RegisterSlots.slots c.loop-command.banks) c.loop-command.invariant)

pub returns-in_err-push-clause-begun : goal.returns-in_err-push-clause-begun
returns-in_err-push-clause-begun g c = on-err c.from_residual-in_err-push.result
    (subst (λ (bs : List Book). IsOneThreadSoFar c.args.commands.now bs) (sym c.in_err-push.ensures.err)
    (performed-so-far (g.B.RegisterSlots.slots c.args.banks.now) c.args.commands.now c.loop-command.command-index c.loop-command.books c.loop-command.world
    (g.B.RegisterSlots.slots c.loop-command.banks) c.loop-command.invariant))

pub loop-command-preserved : goal.loop-command-preserved
loop-command-preserved g c =
    let slots = g.B.RegisterSlots.slots in
    subst (λ (bs : List Book). IsSoFar (slots c.args.banks.now) (take (c.loop-command.command-index + 1) c.args.commands.now) bs
    c.run_command_one.new.world (slots c.run_command_one.new.banks)) (sym c.in_ok-push.ensures.ok)
    (goes-on (slots c.args.banks.now) c.args.commands.now c.loop-command.books c.loop-command.command-index c.command-item.result c.command-item.result c.in_ok-book.book
    c.loop-command.world c.run_command_one.new.world (slots c.loop-command.banks) (slots c.run_command_one.new.banks)
    (omega arith) (sym c.command-item.is) c.loop-command.invariant c.in_ok-book.ensures)
