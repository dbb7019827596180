-- The words of a control request, and its operation.
use Rattle.std.specs.Prelude.{ℕ, List, [], ◌∷◌, ◌++◌, ◌&&◌, length, nat_lt, nat_le, if◌then◌else◌, Option, option_map, Result, Ok, Err, ⊤}
use Rattle.chdr_words.specs.declared.control.CtrlOp.{CtrlOp}
use Rattle.rf_script_types.specs.declared.field.Field.{Field}
use Rattle.rf_script_types.specs.declared.fault.Why.TheVariants as why
use Rattle.rf_script_types.specs.declared.table.Number.{Number}
use Rattle.rf_script_types.specs.Words.{op_of}
use Rattle.rf_script_parts.specs.declared.wrong.Wrong.{Wrong}
use Rattle.rf_script_parts.specs.declared.words.Wholes.{Wholes}
use Rattle.rf_script_parts.specs.declared.words.WordsSoFar.{WordsSoFar}
use Rattle.rf_script_parts.specs.Entries.{entries}
use Rattle.rf_script_parts.specs.Value.{◌>>=◌, bad, typed, whole, ranged}
use Rattle.serde_json.specs.Data.{Data, Items}
use Rattle.serde_json.specs.Find.{as_str}

-- the operation of a text: none where the word isn't listed
abbrev pub operation : Field → Data → Result (Option CtrlOp) Wrong
operation told d = typed told (option_map op_of (as_str d))

-- one more item is a number
abbrev pub wholes : Wholes → Data → Result Wholes Wrong
wholes before d = whole before.told d >>= λ n. Ok before

-- one more word; a sixteenth is out of range
abbrev pub more_words : WordsSoFar → Data → Result WordsSoFar Wrong
more_words before d = whole before.range.told d >>= λ m. ranged before.range m >>= λ n.
    if nat_lt (length before.words) 15 && nat_le n 4294967295
    then Ok (record before { words = before.words ++ n ∷ [] })
    else Err (bad before.range.told why.Range)

-- each item is a number
unfoldable pub check_words : Field → Items → Result ⊤ Wrong
check_words told ds = entries wholes (record { told = told }) ds >>= λ all. Ok tt

-- the words of a list of numbers
unfoldable pub word_list : Number → Items → Result (List ℕ) Wrong
word_list range ds = entries more_words (record { range = range; words = [] }) ds >>= λ all. Ok all.words
