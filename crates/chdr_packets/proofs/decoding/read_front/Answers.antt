use Rattle.std.proofs.Common.{arith, ◌≤◌, length, take}
use Rattle.std.specs.Prelude.{◌↔◌, IsTrue}
use Rattle.chdr_packets.specs.Fits.{FitsPacket}
use Rattle.chdr_packets.specs.Grammar.{IsCanon, Spells}
use Rattle.chdr_packets.specs.declared.packet.Front.{Front}
use Rattle.chdr_packets.proofs.ReadLemmas.{gives_front, front_few}
use Rattle.chdr_packets.proofs.decoding.read_front.Goals as goal

pub returns-clause-spells : goal.returns-clause-spells
returns-clause-spells c = gives_front (λ (x : Front). Spells x.packet (take x.size c.args.b.now)) c.args.b.now c.read.result (λ x is. is.spells) (λ i. omega (arith, c.type_inv.b i)) c.read.ensures

pub returns-clause-marks : goal.returns-clause-marks
returns-clause-marks c = gives_front (λ (x : Front). IsTrue x.canonical ↔ IsCanon x.packet (take x.size c.args.b.now)) c.args.b.now c.read.result (λ x is. is.marks) (λ i. omega (arith, c.type_inv.b i)) c.read.ensures

pub returns-clause-fits : goal.returns-clause-fits
returns-clause-fits c = gives_front (λ (x : Front). FitsPacket x.packet) c.args.b.now c.read.result (λ x is. is.fits) (λ i. omega (arith, c.type_inv.b i)) c.read.ensures

pub returns-clause-within : goal.returns-clause-within
returns-clause-within c = gives_front (λ (x : Front). (x.size ≤ length c.args.b.now) × (8 ≤ x.size)) c.args.b.now c.read.result (λ x is. is.within) (λ i. omega (arith, c.type_inv.b i)) c.read.ensures

pub returns-clause-few : goal.returns-clause-few
returns-clause-few c = front_few c.args.b.now c.read.result c.read.ensures
