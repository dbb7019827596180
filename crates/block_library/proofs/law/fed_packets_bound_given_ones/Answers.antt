use Rattle.block_library.proofs.WithinLemmas.{fed_bounds_given, all_fed_bound_given}
use Rattle.block_library.proofs.law.fed_packets_bound_given_ones.Goals as goal

pub returns-clause-step : goal.returns-clause-step
returns-clause-step c = fed_bounds_given

pub returns-clause-all : goal.returns-clause-all
returns-clause-all c = all_fed_bound_given
