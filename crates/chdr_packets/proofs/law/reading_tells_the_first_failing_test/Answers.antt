use Rattle.chdr_packets.proofs.Laws.{none_exactly, refused_exactly, no_memory}
use Rattle.chdr_packets.proofs.law.reading_tells_the_first_failing_test.Goals as goal

pub returns : goal.returns
returns c = record { none = none_exactly; refused = refused_exactly; memory = no_memory }
