use Rattle.std.proofs.Common.{◌∙◌}
use Rattle.chdr_words.proofs.ControlLemmas.{control_again, control_reads, control_refused}
use Rattle.chdr_words.proofs.control.decode_control.Goals as goal

pub returns-clause-reads : goal.returns-clause-reads
returns-clause-reads c = control_reads c.args.b.now c.read.result c.read.ensures

pub returns-clause-accepts : goal.returns-clause-accepts
returns-clause-accepts c = λ v s. c.read.ensures ∙ control_again c.args.b.now v s

pub returns-clause-refuses : goal.returns-clause-refuses
returns-clause-refuses c = rw c.read.ensures (control_refused c.args.b.now)
