-- What bytes are as a script.
use Rattle.std.specs.Prelude.{◌≡◌, ◌⊎◌, ℕ, ◌<◌, ◌≤◌, List, length, None, Some, Result, Err}
use Rattle.std.specs.Str.{IsUtf8}
use Rattle.rf_script_types.specs.declared.command.Script.{Script}
use Rattle.rf_script_types.specs.declared.fault.ScriptFault.{ScriptFault}
use Rattle.rf_script_types.specs.declared.fault.ScriptFault.TheVariants.{TooLong, Syntax}
use Rattle.rf_script_reader.specs.Commands.{script_of}
use Rattle.serde_json.specs.Data.{Data}
use Rattle.serde_json.specs.Read.{read}

-- how many bytes a script has at most
abbrev pub script_limit : ℕ
script_limit = 1048576

-- for every list of bytes exactly one of these three tells what it is: it is too long, or no JSON text, or the value that
-- it reads as is a script or has a first fault
pub record IsScriptOf (bytes : List ℕ) (result : Result Script ScriptFault) : Type 0 where
  pub long : script_limit < length bytes → result ≡ Err TooLong
  pub syntax : length bytes ≤ script_limit → (¬ IsUtf8 bytes) ⊎ (read bytes ≡ None) → result ≡ Err Syntax
  pub value : (d : Data) → length bytes ≤ script_limit → IsUtf8 bytes → read bytes ≡ Some d → result ≡ script_of d
