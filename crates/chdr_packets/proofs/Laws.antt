-- The laws of packets that the crates above may cite, each with its proof.
use Rattle.chdr_packets.specs.Laws.{FaultStands, FittingSpelled, NoMemory, NoneExactly, OneAtFront, OneCanon, ReadMarked, ReadSpelled, ReadStands, ReadWithin, ReadsBack, RefusedExactly, SpelledFits}
use Rattle.chdr_packets.proofs.LawLemmas as packets
use Rattle.chdr_packets.proofs.ReadLemmas as reads
use Rattle.chdr_packets.proofs.SpellingLemmas as spellings
use Rattle.chdr_packets.proofs.UniqueLemmas as uniques

pub one_at_front : OneAtFront
one_at_front = packets.one_at_front

pub reads_back : ReadsBack
reads_back = packets.reads_back

pub spelled_fits : SpelledFits
spelled_fits = packets.spelled_fits

pub fitting_spelled : FittingSpelled
fitting_spelled = spellings.fitting_spelled

pub one_canon : OneCanon
one_canon = uniques.one_canon

pub read_within : ReadWithin
read_within = reads.read_within

pub read_spelled : ReadSpelled
read_spelled = reads.read_spelled

pub read_marked : ReadMarked
read_marked = reads.read_marked

pub read_stands : ReadStands
read_stands = reads.read_stands

pub fault_stands : FaultStands
fault_stands = reads.fault_stands

pub none_exactly : NoneExactly
none_exactly = reads.none_exactly

pub refused_exactly : RefusedExactly
refused_exactly = reads.refused_exactly

pub no_memory : NoMemory
no_memory = reads.no_memory
