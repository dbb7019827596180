-- The commands of a host: discover, route and control; and unload.
use Rattle.std.specs.Prelude.{ℕ, ◌==◌, List, [], ◌∷◌, ◌++◌, ◌&&◌, length, nat_lt, nat_le, if◌then◌else◌, Option, None, Some, option_map, option_and_then, Result, Ok, Err, ⊤}
use Rattle.chdr_words.specs.declared.control.CtrlOp.{CtrlOp}
use Rattle.rf_script_types.specs.declared.command.ScriptCommand.{ScriptCommand}
use Rattle.rf_script_types.specs.declared.command.ScriptCommand.TheVariants.{Discover, Route, Control, Unload}
use Rattle.rf_script_types.specs.declared.field.Field.{Field}
use Rattle.rf_script_types.specs.declared.field.Field.TheVariants as field
use Rattle.rf_script_types.specs.declared.fault.Why.TheVariants as why
use Rattle.rf_script_types.specs.declared.table.Number.{Number}
use Rattle.rf_script_types.specs.declared.table.TheConstants.{HOST, ROUTE_FROM, TO, PORT, ADDR, WORD, ENABLES, SLOT}
use Rattle.rf_script_parts.specs.declared.wrong.Wrong.{Wrong}
use Rattle.rf_script_parts.specs.declared.scope.Scope.{Scope}
use Rattle.rf_script_parts.specs.declared.lose.Sorts.TheVariants.{Plain}
use Rattle.rf_script_parts.specs.Lose.{lose}
use Rattle.rf_script_parts.specs.Others.{only}
use Rattle.rf_script_parts.specs.Scope.{endpoint_field}
use Rattle.rf_script_parts.specs.Value.{◌>>=◌, ◌>>◌, bad, listed, find, required, number}
use Rattle.rf_script_parts.specs.Words.{operation, check_words, word_list}
use Rattle.serde_json.specs.Data.{Data, Items}
use Rattle.serde_json.specs.Find.{as_str, as_array}

unfoldable pub operation_field : Data → Result CtrlOp Wrong
operation_field d = do
  value ← required field.Op field.Op d
  found ← operation field.Op value
  listed field.Op found

-- all types come before all ranges
abbrev pub words_in : Option Items → Result (List ℕ) Wrong
words_in None = Err (bad field.Words why.WrongType)
words_in (Some ds) = check_words field.Words ds >>= λ _. word_list WORD ds

abbrev pub words_at : Option Data → Result (List ℕ) Wrong
words_at None = Ok []
words_at (Some d) = words_in (as_array d)

-- the field `words`, no word where it isn't there
unfoldable pub words : Data → Result (List ℕ) Wrong
words d = words_at (find field.Words d)

unfoldable pub discover : Scope → Data → Result ScriptCommand Wrong
discover scope d = do
  host ← endpoint_field scope HOST d
  faults ← lose scope.version Plain d
  only (field.Do ∷ field.Host ∷ field.Lose ∷ []) d
  Ok (Discover host faults)

unfoldable pub route : Scope → Data → Result ScriptCommand Wrong
route scope d = do
  host ← endpoint_field scope HOST d
  from ← endpoint_field scope ROUTE_FROM d
  to ← endpoint_field scope TO d
  (if to.0 == from.0 then Err (bad field.To why.Range) else do
    faults ← lose scope.version Plain d
    only (field.Do ∷ field.Host ∷ field.From ∷ field.To ∷ field.Lose ∷ []) d
    Ok (Route host from to faults))

unfoldable pub control : Scope → Data → Result ScriptCommand Wrong
control scope d = do
  host ← endpoint_field scope HOST d
  to ← endpoint_field scope TO d
  port ← number PORT d
  op ← operation_field d
  addr ← number ADDR d
  list ← words d
  enables ← number ENABLES d
  faults ← lose scope.version Plain d
  only (field.Do ∷ field.Host ∷ field.To ∷ field.Port ∷ field.Op ∷ field.Addr ∷ field.Words ∷ field.Enables ∷ field.Lose ∷ []) d
  Ok (Control host to port op addr list enables faults)

unfoldable pub unload : Data → Result ScriptCommand Wrong
unload d = do
  port ← number SLOT d
  only (field.Do ∷ field.Port ∷ []) d
  Ok (Unload port)
