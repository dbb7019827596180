-- What is read as a script fits.
use Rattle.std.specs.Prelude.{◌≡◌, ◌≢◌, ℕ, List, Ok, Err}
use Rattle.rf_script_types.specs.declared.command.Script.{Script}
use Rattle.rf_script_types.specs.declared.fault.ScriptFault.TheVariants.{Memory}
use Rattle.rf_script_types.specs.Fits.{FitsScript}
use Rattle.rf_script_reader.specs.Commands.{script_of}
use Rattle.rf_script_reader.specs.Read.{IsScriptOf}
use Rattle.serde_json.specs.Data.{Data}

-- of a JSON value
abbrev pub ValuesFit : Type 0
ValuesFit = (d : Data) (script : Script) → script_of d ≡ Ok script → FitsScript script

-- of bytes
abbrev pub TextsFit : Type 0
TextsFit = (text : List ℕ) (script : Script) → IsScriptOf text (Ok script) → FitsScript script

-- of an answer that is exact unless memory ran out
abbrev pub AnswersFit : Type 0
AnswersFit = (text : List ℕ) (script : Script) → (Ok script ≢ Err Memory → IsScriptOf text (Ok script)) → FitsScript script
