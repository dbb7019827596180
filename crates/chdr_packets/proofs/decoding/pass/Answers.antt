use Rattle.chdr_packets.proofs.PacketLemmas.{passed_within, passed_few}
use Rattle.chdr_packets.proofs.decoding.pass.Goals as goal

pub returns-clause-within : goal.returns-clause-within
returns-clause-within c = passed_within c.args.b.now c.scan.result c.scan.ensures

pub returns-clause-few : goal.returns-clause-few
returns-clause-few c = passed_few c.args.b.now c.scan.result c.scan.ensures
