-- The law, clause by clause.
use Rattle.rf_script_fits.proofs.ScriptFits.{script-fits}
use Rattle.rf_script_fits.proofs.TextFits.{text_fits, answer_fits}
use Rattle.rf_script_fits.proofs.law.what_is_read_fits.Goals as goal

pub returns : goal.returns
returns c = record { values = script-fits; texts = text_fits; answers = answer_fits }
