use Rattle.std.proofs.Common.{◌∙◌, sym}
use Rattle.script_runner.proofs.Lists.{all-so-far, on-ok}
use Rattle.script_runner.proofs.top.perform_script.Goals as goal

pub perform_all-requires-clause-fits : goal.perform_all-requires-clause-fits
perform_all-requires-clause-fits g c = (c.args.script.now.version, rw c.as_slice.ensures c.requires.fits.commands)

pub returns-in-Err-Memory-clause-begun : goal.returns-in-Err-Memory-clause-begun
returns-in-Err-Memory-clause-begun g c = λ _.
    let all = on-ok c.perform_all.result c.perform_all.ensures.done (sym c.is_err.ensures.value ∙ c.if-is_err.false) in
    rw (← c.as_slice.ensures) (all-so-far c.as_slice.result.now c.perform_all.new.books (g.B.RegisterSlots.slots c.args.banks.now)
    (g.B.RegisterSlots.slots c.perform_all.new.banks) all)
