-- What is written of a script is read back.
use Rattle.std.specs.Prelude.{◌≡◌, ℕ, ◌≤◌, List, length, Some, Result, Ok}
use Rattle.std.specs.Str.{IsUtf8}
use Rattle.rf_script_types.specs.declared.command.Script.{Script}
use Rattle.rf_script_types.specs.declared.fault.ScriptFault.{ScriptFault}
use Rattle.rf_script_types.specs.CommandText.{script_text}
use Rattle.rf_script_types.specs.Fits.{FitsScript}
use Rattle.rf_script_reader.specs.Commands.{script_of}
use Rattle.rf_script_reader.specs.Read.{IsScriptOf, script_limit}
use Rattle.serde_json.specs.Read.{read}

-- the bytes are this script, and nothing else
pub record IsReadAs (text : List ℕ) (script : Script) : Type 0 where
  pub is : IsScriptOf text (Ok script)
  pub only : (result : Result Script ScriptFault) → IsScriptOf text result → result ≡ Ok script

-- the value of a script that fits is read as it
abbrev pub ValuesAreReadBack : Type 0
ValuesAreReadBack = (script : Script) → FitsScript script → script_of (script_text script) ≡ Ok script

-- a text of that value is read as it, unless it is too long
abbrev pub TextsAreReadBack : Type 0
TextsAreReadBack = (script : Script) (text : List ℕ) → FitsScript script → length text ≤ script_limit → IsUtf8 text
    → read text ≡ Some (script_text script) → IsReadAs text script
