-- Endpoints, which a number names, and in version 2 a text.
use Rattle.std.specs.Prelude.{ℕ, ◌==◌, List, [], ◌∷◌, Bool, ◌&&◌, ◌||◌, if◌then◌else◌, Option, None, Some, option_and_then, is_some, Result, Ok, Err, ⊤}
use Rattle.std.specs.Str.{bytes_eq}
use Rattle.chdr_words.specs.declared.epid.Epid.{Epid}
use Rattle.rf_script_types.specs.declared.field.Field.{Field}
use Rattle.rf_script_types.specs.declared.table.Number.{Number}
use Rattle.rf_script_types.specs.declared.fault.Why.TheVariants as why
use Rattle.rf_script_parts.specs.declared.wrong.Wrong.{Wrong}
use Rattle.rf_script_parts.specs.declared.scope.Named.{Named}
use Rattle.rf_script_parts.specs.declared.scope.Scope.{Scope}
use Rattle.rf_script_parts.specs.Value.{◌>>=◌, ◌>>◌, bad, required, whole, ranged, sized}
use Rattle.serde_json.specs.Data.{Data}
use Rattle.serde_json.specs.Find.{at, as_number, as_u64, as_str}

-- the EPID of the node with this name
abbrev pub epid_named : List Named → List ℕ → Option Epid
epid_named [] name = None
epid_named (known ∷ names) name = if bytes_eq known.name name then Some known.epid else epid_named names name

abbrev pub or_no_name : Field → Option Epid → Result Epid Wrong
or_no_name told None = Err (bad told why.NoName)
or_no_name told (Some epid) = Ok epid

-- the endpoint that a name stands for
abbrev pub of_name : Field → Scope → List ℕ → Result Epid Wrong
of_name told scope name = or_no_name told (epid_named scope.names name)

-- the endpoint of a number
abbrev pub numbered : Number → Data → Result Epid Wrong
numbered range d = whole range.told d >>= λ m. ranged range m >>= λ n. Ok (record { 0 = n })

abbrev pub named_or_numbered : Scope → Number → Data → Option (List ℕ) → Result Epid Wrong
named_or_numbered scope range d None = numbered range d
named_or_numbered scope range d (Some name) = of_name range.told scope name

-- the endpoint that a value names
unfoldable pub endpoint : Scope → Number → Data → Result Epid Wrong
endpoint scope range d = if scope.version == 2 then named_or_numbered scope range d (as_str d) else numbered range d

-- the endpoint of a field
unfoldable pub endpoint_field : Scope → Number → Data → Result Epid Wrong
endpoint_field scope range d = required range.key range.told d >>= endpoint scope range

-- the endpoint of a field that holds no name
unfoldable pub number_field : Number → Data → Result Epid Wrong
number_field range d = required range.key range.told d >>= numbered range

-- a value of a type that names an endpoint
abbrev pub is_end : ℕ → Data → Bool
is_end version d = is_some (option_and_then as_u64 (as_number d)) || version == 2 && is_some (as_str d)

abbrev pub check_end_at : Field → ℕ → Option Data → Result ⊤ Wrong
check_end_at told version None = Err (bad told why.WrongType)
check_end_at told version (Some d) = if is_end version d then Ok tt else Err (bad told why.WrongType)

unfoldable pub check_end : Field → ℕ → ℕ → Data → Result ⊤ Wrong
check_end told version i d = check_end_at told version (at i d)

abbrev pub end_there : Scope → Number → Option Data → Result Epid Wrong
end_there scope range None = Err (bad range.told why.WrongType)
end_there scope range (Some d) = endpoint scope range d

-- the endpoint that an item of a list names
unfoldable pub end_at : Scope → Number → ℕ → Data → Result Epid Wrong
end_at scope range i d = end_there scope range (at i d)

unfoldable pub one_end : Scope → Number → Data → Result (List Epid) Wrong
one_end scope range d = do
  sized range.told 1 d
  epid ← end_at scope range 0 d
  Ok (epid ∷ [])

-- both types come before both ranges
unfoldable pub two_ends : Scope → Number → Data → Result (List Epid) Wrong
two_ends scope range d = do
  sized range.told 2 d
  check_end range.told scope.version 0 d
  check_end range.told scope.version 1 d
  first ← end_at scope range 0 d
  second ← end_at scope range 1 d
  Ok (first ∷ second ∷ [])

abbrev pub ends_in : Scope → Number → ℕ → Data → Result (List Epid) Wrong
ends_in scope range count d = if count == 1 then one_end scope range d else two_ends scope range d

-- the endpoints of a side of a block, which isn't there if the kind has no port on it
unfoldable pub ends : Scope → Number → ℕ → Data → Result (List Epid) Wrong
ends scope range count d = if count == 0 then Ok [] else required range.key range.told d >>= ends_in scope range count
