-- The law.
use Rattle.rf_script_round.proofs.TextBack.{text_back}
use Rattle.rf_script_round.proofs.law.a_text_of_a_script_is_read_as_it.Goals as goal

pub returns : goal.returns
returns c = text_back
