use Rattle.block_library.proofs.ProducerLemmas.{produced_is_by_place}
use Rattle.block_library.proofs.SizeLemmas.{plans_are_within}
use Rattle.block_library.proofs.law.a_plan_gives_its_packets.Goals as goal

pub returns-clause-places : goal.returns-clause-places
returns-clause-places c = produced_is_by_place

pub returns-clause-within : goal.returns-clause-within
returns-clause-within c = plans_are_within
