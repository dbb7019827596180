use Rattle.std.proofs.Common.{arith}
use Rattle.chdr_words.proofs.ManagementReading.{management_reads, management_accepts, management_refused}
use Rattle.chdr_words.proofs.management.decode_management.Goals as goal

pub returns-clause-reads : goal.returns-clause-reads
returns-clause-reads c = management_reads c.args.b.now c.read.result (λ i. omega (arith, c.type_inv.b i)) c.read.ensures

pub returns-clause-accepts : goal.returns-clause-accepts
returns-clause-accepts c = λ m s. management_accepts c.args.b.now c.read.result m s c.read.ensures

pub returns-clause-refuses : goal.returns-clause-refuses
returns-clause-refuses c = λ e. management_refused c.args.b.now c.read.result c.read.ensures e
