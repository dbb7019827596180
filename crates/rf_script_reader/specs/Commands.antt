-- What a JSON value is as a script: the script, or the first fault.
use Rattle.std.specs.Prelude.{ℕ, ◌==◌, ◌+◌, List, [], ◌∷◌, ◌++◌, length, nat_le, if◌then◌else◌, Option, None, Some, option_map, is_some, Result, Ok, Err}
use Rattle.rf_script_types.specs.declared.command.Script.{Script}
use Rattle.rf_script_types.specs.declared.command.ScriptCommand.{ScriptCommand}
use Rattle.rf_script_types.specs.declared.fault.ScriptFault.{ScriptFault}
use Rattle.rf_script_types.specs.declared.fault.ScriptFault.TheVariants as fault
use Rattle.rf_script_types.specs.declared.field.Field.TheVariants as field
use Rattle.rf_script_types.specs.declared.fault.Why.TheVariants as why
use Rattle.rf_script_types.specs.declared.table.TheConstants.{RFNOC}
use Rattle.rf_script_types.specs.declared.words.Verb.{Verb}
use Rattle.rf_script_types.specs.declared.words.Verb.TheVariants as verb_is
use Rattle.rf_script_types.specs.Limits.{command_limit}
use Rattle.rf_script_types.specs.Names.{field_name}
use Rattle.rf_script_types.specs.Words.{verb_of}
use Rattle.rf_script_parts.specs.declared.wrong.Wrong.{Wrong}
use Rattle.rf_script_parts.specs.declared.wrong.Wrong.TheVariants as wrong
use Rattle.rf_script_parts.specs.declared.scope.Named.{Named}
use Rattle.rf_script_parts.specs.declared.scope.Scope.{Scope}
use Rattle.rf_script_parts.specs.declared.scope.ReadCommand.{ReadCommand}
use Rattle.rf_script_reader.specs.declared.commands.SoFar.{SoFar}
use Rattle.rf_script_reader.specs.Block.{block}
use Rattle.rf_script_reader.specs.Connect.{connect, set, commit}
use Rattle.rf_script_reader.specs.Control.{discover, route, control, unload}
use Rattle.rf_script_parts.specs.Net.{net}
use Rattle.rf_script_parts.specs.Others.{only}
use Rattle.rf_script_reader.specs.Run.{run, twin, duplex}
use Rattle.rf_script_parts.specs.Value.{◌>>=◌, bad, typed, listed, required, number}
use Rattle.serde_json.specs.Data.{Data, Items, no_items, item}
use Rattle.serde_json.specs.Events.{items_len}
use Rattle.serde_json.specs.Find.{as_str, as_array, as_object}

-- the verb, if the version has it
abbrev pub allowed : ℕ → Option Verb → Option Verb
allowed version None = None
allowed version (Some verb_is.Net) = Some verb_is.Net
allowed version (Some verb_is.Discover) = Some verb_is.Discover
allowed version (Some verb_is.Route) = Some verb_is.Route
allowed version (Some verb_is.Control) = Some verb_is.Control
allowed version (Some verb_is.Unload) = Some verb_is.Unload
allowed version (Some verb_is.Block) = Some verb_is.Block
allowed version (Some verb_is.Connect) = Some verb_is.Connect
allowed version (Some verb_is.Set) = Some verb_is.Set
allowed version (Some verb_is.Commit) = Some verb_is.Commit
allowed version (Some verb_is.Run) = Some verb_is.Run
allowed version (Some verb_is.Twin) = if version == 2 then Some verb_is.Twin else None
allowed version (Some verb_is.Duplex) = if version == 2 then Some verb_is.Duplex else None

abbrev pub verb_there : ℕ → Data → Result Verb Wrong
verb_there version d = do
  value ← required field.Do field.Do d
  found ← typed field.Do (option_map verb_of (as_str value))
  listed field.Do (allowed version found)

-- the verb of a command, which is the word of its field `do`
unfoldable pub verb : ℕ → Data → Result Verb Wrong
verb version d = if is_some (as_object d) then verb_there version d else Err (bad field.Whole why.WrongType)

abbrev pub unnamed : ScriptCommand → ReadCommand
unnamed command = record { command = command; names = None }

abbrev pub plain : Result ScriptCommand Wrong → Result ReadCommand Wrong
plain made = made >>= λ command. Ok (unnamed command)

-- what a command says, under its verb
abbrev pub command_of : Scope → Data → Verb → Result ReadCommand Wrong
command_of scope d verb_is.Net = net scope.version d
command_of scope d verb_is.Discover = plain (discover scope d)
command_of scope d verb_is.Route = plain (route scope d)
command_of scope d verb_is.Control = plain (control scope d)
command_of scope d verb_is.Unload = plain (unload d)
command_of scope d verb_is.Block = plain (block scope d)
command_of scope d verb_is.Connect = plain (connect d)
command_of scope d verb_is.Set = plain (set d)
command_of scope d verb_is.Commit = plain (commit d)
command_of scope d verb_is.Run = plain (run scope.version d)
command_of scope d verb_is.Twin = plain (twin scope.version d)
command_of scope d verb_is.Duplex = plain (duplex scope.version d)

-- the names in force are those of the last net command
abbrev pub names_after : List Named → Option (List Named) → List Named
names_after before None = before
names_after before (Some names) = names

abbrev pub with_command : SoFar → ReadCommand → SoFar
with_command before read = record {
  scope = record { version = before.scope.version; names = names_after before.scope.names read.names };
  list = before.list ++ read.command ∷ [];
}

-- one more command
unfoldable pub more : SoFar → Data → Result SoFar Wrong
more before d = do
  what ← verb before.scope.version d
  read ← command_of before.scope d what
  Ok (with_command before read)

-- the fault of a script that a command has, or the script itself
abbrev pub told : Option ℕ → Wrong → ScriptFault
told command (wrong.At field why) = fault.Form command (field_name field) why
told command (wrong.Unknown key) = fault.Form command key why.Unknown
told command wrong.Memory = fault.Memory

abbrev pub then_told : {A B : Type 0} → Option ℕ → Result A Wrong → (A → Result B ScriptFault) → Result B ScriptFault
then_told command (Ok a) f = f a
then_told command (Err e) f = Err (told command e)

-- command by command: the number of each is that of the commands before it
abbrev pub commands_from : SoFar → Items → Result (List ScriptCommand) ScriptFault
commands_from before no_items = Ok before.list
commands_from before (item d ds) = then_told (Some (length before.list)) (more before d) (λ after. commands_from after ds)

abbrev pub at_first : ℕ → SoFar
at_first version = record { scope = record { version = version; names = [] }; list = [] }

unfoldable pub commands : ℕ → Items → Result (List ScriptCommand) ScriptFault
commands version ds = commands_from (at_first version) ds

abbrev pub items_within : ℕ → Option Items → Result Items Wrong
items_within version None = Err (bad field.Commands why.WrongType)
items_within version (Some ds) = if nat_le (items_len ds) (command_limit version) then Ok ds else Err (bad field.Commands why.Range)

-- the field `commands`
unfoldable pub command_items : ℕ → Data → Result Items Wrong
command_items version d = required field.Commands field.Commands d >>= λ value. items_within version (as_array value)

-- the field `rfnoc`
unfoldable pub version_of : Data → Result ℕ Wrong
version_of d = if is_some (as_object d) then number RFNOC d >>= (λ n. Ok n) else Err (bad field.Whole why.WrongType)

abbrev pub script_from : ℕ → Result (List ScriptCommand) ScriptFault → Result Script ScriptFault
script_from version (Ok list) = Ok (record { version = version; commands = list })
script_from version (Err e) = Err e

-- the script that a value stands for, or its first fault: the version, the list of commands, other keys, and then
-- command by command
unfoldable pub script_of : Data → Result Script ScriptFault
script_of d =
    then_told None (version_of d) λ version.
    then_told None (command_items version d) λ ds.
    then_told None (only (field.Rfnoc ∷ field.Commands ∷ []) d) λ _.
    script_from version (commands version ds)
