-- The line of a script's fault.
use Rattle.std.specs.Prelude.{ℕ, ◌++◌, List, [], ◌∷◌, Option, None, Some, codes, decimal, map, nat_lt, if◌then◌else◌}
use Rattle.rf_script_types.specs.declared.fault.ScriptFault.{ScriptFault}
use Rattle.rf_script_types.specs.declared.fault.ScriptFault.TheVariants.{Form, Memory, Syntax, TooLong}
use Rattle.rf_script_types.specs.declared.fault.Why.{Why}
use Rattle.rf_script_types.specs.declared.fault.Why.TheVariants as why

abbrev pub why_text : Why → List ℕ
why_text why.Missing = codes "Missing"
why_text why.WrongType = codes "Type"
why_text why.Range = codes "Range"
why_text why.Flow = codes "Flow"
why_text why.Unknown = codes "Unknown"
why_text why.Name = codes "Name"
why_text why.NoName = codes "NoName"

-- the number of a command; the script itself has none
abbrev pub place_text : Option ℕ → List ℕ
place_text None = codes "-"
place_text (Some number) = decimal number

-- a control character shows as a question mark
abbrev pub shown : ℕ → ℕ
shown byte = if nat_lt byte 32 then 63 else byte

-- the name of a field; the command itself has none
abbrev pub field_text : List ℕ → List ℕ
field_text [] = codes "-"
field_text (byte ∷ name) = map shown (byte ∷ name)

-- fault Form command C field F why W
abbrev pub form_line : Option ℕ → List ℕ → Why → List ℕ
form_line command field why = (codes "fault Form command " ++ place_text command)
    ++ ((codes " field " ++ field_text field) ++ (codes " why " ++ (why_text why ++ codes "\n")))

-- running out of memory has no line
abbrev pub fault_line : ScriptFault → List ℕ
fault_line TooLong = codes "fault TooLong\n"
fault_line Syntax = codes "fault Syntax\n"
fault_line (Form command field why) = form_line command field why
fault_line Memory = []
