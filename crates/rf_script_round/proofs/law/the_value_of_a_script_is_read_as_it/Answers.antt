-- The law.
use Rattle.rf_script_round.proofs.ScriptBack.{script-back}
use Rattle.rf_script_round.proofs.law.the_value_of_a_script_is_read_as_it.Goals as goal

pub returns : goal.returns
returns c = script-back
