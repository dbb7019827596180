-- Two numbers of one field.
use Rattle.std.specs.Prelude.{ℕ, Option, None, Some, Result, Ok, Err}
use Rattle.rf_script_types.specs.declared.field.Field.{Field}
use Rattle.rf_script_types.specs.declared.fault.Why.TheVariants as why
use Rattle.rf_script_types.specs.declared.table.Number.{Number}
use Rattle.rf_script_parts.specs.declared.pair.Pair.{Pair}
use Rattle.rf_script_parts.specs.declared.wrong.Wrong.{Wrong}
use Rattle.rf_script_parts.specs.Value.{◌>>=◌, ◌>>◌, bad, find, ranged, sized, element}
use Rattle.serde_json.specs.Data.{Data}

-- the two numbers of an array; both types come before both ranges
unfoldable pub pair_of : Number → Number → Data → Result Pair Wrong
pair_of first second d = do
  sized first.told 2 d
  x ← element first.told 0 d
  y ← element first.told 1 d
  a ← ranged first x
  b ← ranged second y
  Ok (record { first = a; second = b })

abbrev pub default_pair : Field → Option ℕ → Option ℕ → Result Pair Wrong
default_pair told None None = Err (bad told why.Missing)
default_pair told None (Some b) = Err (bad told why.Missing)
default_pair told (Some a) None = Err (bad told why.Missing)
default_pair told (Some a) (Some b) = Ok (record { first = a; second = b })

abbrev pub pair_at : Number → Number → Option Data → Result Pair Wrong
pair_at first second None = default_pair first.told first.default second.default
pair_at first second (Some d) = pair_of first second d

-- the two numbers of a field, their defaults where it isn't there
unfoldable pub pair_field : Number → Number → Data → Result Pair Wrong
pair_field first second d = pair_at first second (find first.key d)
