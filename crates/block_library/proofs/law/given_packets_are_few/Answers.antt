use Rattle.block_library.proofs.CountLemmas.{few_are_given, few_are_given_in_all}
use Rattle.block_library.proofs.law.given_packets_are_few.Goals as goal

pub returns-clause-step : goal.returns-clause-step
returns-clause-step c = few_are_given

pub returns-clause-all : goal.returns-clause-all
returns-clause-all c = few_are_given_in_all
