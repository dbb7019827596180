use Rattle.chdr_stream.proofs.Laws.{shows_first_fault, shows_longest, whole_or_faulty, has_none, has_one}
use Rattle.chdr_stream.proofs.law.the_fault_is_the_first.Goals as goal

pub returns : goal.returns
returns c = record { exact = shows_first_fault; longest = shows_longest; either = whole_or_faulty; none = has_none; one = has_one }
