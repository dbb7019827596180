use Rattle.std.proofs.Common.{ap, ◌∙◌, length}
use Rattle.chdr_packets.proofs.WritingLemmas.{canon_size}
use Rattle.chdr_packets.proofs.encoding.encode.Goals as goal

pub returns-clause-size : goal.returns-clause-size
returns-clause-size c = ap length c.from_vec.ensures ∙ canon_size c.args.p.now _ c.in_ok-write.ensures
