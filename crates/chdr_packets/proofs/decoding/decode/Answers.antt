use Rattle.std.proofs.Common.{arith}
use Rattle.chdr_packets.proofs.PacketLemmas.{gives_within, gives_few}
use Rattle.chdr_packets.proofs.GrammarLemmas.{gives_reads, gives_accepts}
use Rattle.chdr_packets.proofs.ReadLemmas.{gives_fits}
use Rattle.chdr_packets.proofs.RefusalLemmas.{short_exactly, refuses_exactly}
use Rattle.chdr_packets.proofs.decoding.decode.Goals as goal

pub returns-clause-spells : goal.returns-clause-spells
returns-clause-spells c = gives_reads c.args.b.now c.read_sized.result (λ i. omega (arith, c.type_inv.b i)) c.read_sized.ensures

pub returns-clause-fits : goal.returns-clause-fits
returns-clause-fits c = gives_fits c.read_sized.result c.args.b.now (gives_reads c.args.b.now c.read_sized.result (λ i. omega (arith, c.type_inv.b i)) c.read_sized.ensures)

pub returns-clause-accepts : goal.returns-clause-accepts
returns-clause-accepts c = λ p n le s. gives_accepts c.args.b.now c.read_sized.result p n c.read_sized.ensures le s

pub returns-clause-none : goal.returns-clause-none
returns-clause-none c = λ memory. short_exactly c.args.b.now c.read_sized.result c.read_sized.ensures memory

pub returns-clause-refuses : goal.returns-clause-refuses
returns-clause-refuses c = λ memory. refuses_exactly c.args.b.now c.read_sized.result (λ i. omega (arith, c.type_inv.b i)) c.read_sized.ensures memory

pub returns-clause-within : goal.returns-clause-within
returns-clause-within c = gives_within c.args.b.now c.read_sized.result c.read_sized.ensures

pub returns-clause-few : goal.returns-clause-few
returns-clause-few c = gives_few c.args.b.now c.read_sized.result c.read_sized.ensures
