-- Keys that are no field.
use Rattle.std.specs.Prelude.{ℕ, List, [], ◌∷◌, Bool, false, ◌||◌, if◌then◌else◌, Option, None, Some, option_and_then, Result, Ok, Err, ⊤}
use Rattle.std.specs.Str.{bytes_eq}
use Rattle.rf_script_types.specs.declared.field.Field.{Field}
use Rattle.rf_script_types.specs.declared.fault.Why.TheVariants as why
use Rattle.rf_script_types.specs.Names.{field_name}
use Rattle.rf_script_parts.specs.declared.wrong.Wrong.{Wrong}
use Rattle.rf_script_parts.specs.declared.wrong.Wrong.TheVariants.{Unknown}
use Rattle.rf_script_parts.specs.Value.{bad}
use Rattle.serde_json.specs.Data.{Data, Members, no_members, member}
use Rattle.serde_json.specs.Find.{as_object}

-- the text is the name of one of the fields
abbrev pub names_one : List Field → List ℕ → Bool
names_one [] text = false
names_one (field ∷ fields) text = bytes_eq text (field_name field) || names_one fields text

-- the first key that names none of them; members stand in the order of bytes
abbrev pub first_other : List Field → Members → Option (List ℕ)
first_other fields no_members = None
first_other fields (member key d ms) = if names_one fields key then first_other fields ms else Some key

abbrev pub other_of : List Field → Data → Option (List ℕ)
other_of fields d = option_and_then (first_other fields) (as_object d)

abbrev pub unless_other : Option (List ℕ) → Result ⊤ Wrong
unless_other None = Ok tt
unless_other (Some key) = Err (Unknown key)

-- an object has no key but these; the fault names the key
unfoldable pub only : List Field → Data → Result ⊤ Wrong
only fields d = unless_other (other_of fields d)

abbrev pub unless_other_in : Field → Option (List ℕ) → Result ⊤ Wrong
unless_other_in told None = Ok tt
unless_other_in told (Some key) = Err (bad told why.Unknown)

-- an entry of a list has no key but these; the fault names the list
unfoldable pub only_in : Field → List Field → Data → Result ⊤ Wrong
only_in told fields d = unless_other_in told (other_of fields d)
