-- What a JSON value is, and the fault where it isn't what is wanted.
use Rattle.std.specs.Prelude.{◌≡◌, ◌==◌, ℕ, List, Bool, false, ◌&&◌, nat_le, if◌then◌else◌, Option, None, Some, option_map, option_and_then, Result, Ok, Err, ⊤}
use Rattle.rf_script_types.specs.declared.field.Field.{Field}
use Rattle.rf_script_types.specs.declared.table.Number.{Number}
use Rattle.rf_script_types.specs.declared.fault.Why.{Why}
use Rattle.rf_script_types.specs.declared.fault.Why.TheVariants.{Missing, WrongType, Range}
use Rattle.rf_script_types.specs.Names.{field_name}
use Rattle.rf_script_parts.specs.declared.wrong.Wrong.{Wrong}
use Rattle.rf_script_parts.specs.declared.wrong.Wrong.TheVariants.{At, Memory}
use Rattle.serde_json.specs.Data.{Data}
use Rattle.serde_json.specs.Events.{items_len}
use Rattle.serde_json.specs.Find.{get, at, as_number, as_u64, as_bool, as_array}

-- one step after another, up to the first fault
infixl 10 ◌>>=◌
abbrev pub ◌>>=◌ : {A B : Type 0} → Result A Wrong → (A → Result B Wrong) → Result B Wrong
Ok a >>= f = f a
Err e >>= f = Err e

infixl 10 ◌>>◌
abbrev pub ◌>>◌ : {A B : Type 0} → Result A Wrong → Result B Wrong → Result B Wrong
Ok a >> next = next
Err e >> next = Err e

-- a fault of the text: memory didn't run out
abbrev pub IsFault : Wrong → Type 0
IsFault e = e ≡ Memory → ⊥

-- the fault that a field has
abbrev pub bad : Field → Why → Wrong
bad field why = At field why

-- what was found, which another type doesn't have
abbrev pub typed : {A : Type 0} → Field → Option A → Result A Wrong
typed told None = Err (bad told WrongType)
typed told (Some a) = Ok a

-- what was found, which a word that isn't listed doesn't have
abbrev pub listed : {A : Type 0} → Field → Option A → Result A Wrong
listed told None = Err (bad told Range)
listed told (Some a) = Ok a

-- what was found, which has to be there
abbrev pub present : {A : Type 0} → Field → Option A → Result A Wrong
present told None = Err (bad told Missing)
present told (Some a) = Ok a

-- the value of a field
abbrev pub find : Field → Data → Option Data
find field d = get (field_name field) d

abbrev pub required : Field → Field → Data → Result Data Wrong
required key told d = present told (find key d)

-- the number that a value is
abbrev pub whole : Field → Data → Result ℕ Wrong
whole told d = typed told (option_and_then as_u64 (as_number d))

-- the range of a range
abbrev pub within : Number → ℕ → Bool
within range n = nat_le range.low n && nat_le n range.high

abbrev pub ranged : Number → ℕ → Result ℕ Wrong
ranged range n = if within range n then Ok n else Err (bad range.told Range)

abbrev pub number_at : Number → Option Data → Result ℕ Wrong
number_at range None = present range.told range.default
number_at range (Some d) = whole range.told d >>= ranged range

-- the number of a range, its default where it isn't there
unfoldable pub number : Number → Data → Result ℕ Wrong
number range d = number_at range (find range.key d)

abbrev pub optional_at : Number → Option Data → Result (Option ℕ) Wrong
optional_at range None = Ok None
optional_at range (Some d) = whole range.told d >>= λ m. ranged range m >>= λ n. Ok (Some n)

-- the number of a field that may be left out
unfoldable pub optional : Number → Data → Result (Option ℕ) Wrong
optional range d = optional_at range (find range.key d)

abbrev pub flag_at : Field → Bool → Option Data → Result Bool Wrong
flag_at field default None = Ok default
flag_at field default (Some d) = typed field (as_bool d)

-- a flag, its default where it isn't there
unfoldable pub flag : Field → Bool → Data → Result Bool Wrong
flag field default d = flag_at field default (find field d)

abbrev pub is_number : ℕ → Option ℕ → Bool
is_number n None = false
is_number n (Some m) = m == n

-- an array of this number of items
abbrev pub has_items : ℕ → Data → Bool
has_items n d = is_number n (option_map items_len (as_array d))

unfoldable pub sized : Field → ℕ → Data → Result ⊤ Wrong
sized told n d = if has_items n d then Ok tt else Err (bad told WrongType)

abbrev pub element_at : Field → Option Data → Result ℕ Wrong
element_at told None = Err (bad told WrongType)
element_at told (Some d) = whole told d

-- the number that an item of an array is
unfoldable pub element : Field → ℕ → Data → Result ℕ Wrong
element told i d = element_at told (at i d)
