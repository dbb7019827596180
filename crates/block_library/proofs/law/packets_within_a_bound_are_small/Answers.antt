use Rattle.block_library.proofs.SizeLemmas.{within_is_small, within_is_of_all}
use Rattle.block_library.proofs.law.packets_within_a_bound_are_small.Goals as goal

pub returns-clause-small : goal.returns-clause-small
returns-clause-small c = within_is_small

pub returns-clause-numbered : goal.returns-clause-numbered
returns-clause-numbered c = within_is_of_all
