-- The commands run, twin and duplex.
use Rattle.std.specs.Prelude.{ℕ, [], ◌∷◌, false, Result, Ok, Err}
use Rattle.rf_script_types.specs.declared.command.ScriptCommand.{ScriptCommand}
use Rattle.rf_script_types.specs.declared.command.ScriptCommand.TheVariants as command
use Rattle.rf_script_types.specs.declared.field.Field.TheVariants as field
use Rattle.rf_script_types.specs.declared.table.TheConstants.{SEED, CUT, HOST}
use Rattle.rf_script_parts.specs.declared.wrong.Wrong.{Wrong}
use Rattle.rf_script_parts.specs.declared.lose.Sorts.TheVariants.{Stream, Any}
use Rattle.rf_script_reader.specs.Acts.{acts}
use Rattle.rf_script_parts.specs.Lose.{lose}
use Rattle.rf_script_parts.specs.Others.{only}
use Rattle.rf_script_parts.specs.Scope.{number_field}
use Rattle.rf_script_parts.specs.Value.{◌>>=◌, ◌>>◌, number, flag}
use Rattle.serde_json.specs.Data.{Data}

unfoldable pub run : ℕ → Data → Result ScriptCommand Wrong
run version d = do
  seed ← number SEED d
  trace ← flag field.Trace false d
  peak ← flag field.Peak false d
  faults ← lose version Stream d
  only (field.Do ∷ field.Seed ∷ field.Trace ∷ field.Peak ∷ field.Lose ∷ []) d
  Ok (command.Run seed trace peak faults)

unfoldable pub twin : ℕ → Data → Result ScriptCommand Wrong
twin version d = do
  cut ← number CUT d
  peak ← flag field.Peak false d
  faults ← lose version Stream d
  only (field.Do ∷ field.Cut ∷ field.Peak ∷ field.Lose ∷ []) d
  Ok (command.Twin cut peak faults)

unfoldable pub duplex : ℕ → Data → Result ScriptCommand Wrong
duplex version d = do
  host ← number_field HOST d
  list ← acts host d
  seed ← number SEED d
  peak ← flag field.Peak false d
  faults ← lose version Any d
  only (field.Do ∷ field.Host ∷ field.Acts ∷ field.Seed ∷ field.Peak ∷ field.Lose ∷ []) d
  Ok (command.Duplex host list seed peak faults)
