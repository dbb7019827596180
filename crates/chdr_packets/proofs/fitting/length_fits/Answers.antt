use Rattle.std.proofs.Common.{subst, arith}
use Rattle.chdr_packets.specs.Fits.{FitsBody}
use Rattle.chdr_packets.proofs.LengthLemmas.{few_ops}
use Rattle.chdr_packets.proofs.fitting.length_fits.Goals as goal

pub op_count-requires : goal.op_count-requires
op_count-requires c = rw c.as_slice.ensures (omega (arith, few_ops c.in-Management.management (subst FitsBody c.in-Management.is c.requires.body)))
