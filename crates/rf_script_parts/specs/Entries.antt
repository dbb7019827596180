-- Lists, which are read entry by entry.
use Rattle.std.specs.Prelude.{Result, Ok, Err}
use Rattle.rf_script_parts.specs.declared.wrong.Wrong.{Wrong}
use Rattle.rf_script_parts.specs.Value.{◌>>=◌}
use Rattle.serde_json.specs.Data.{Data, Items, no_items, item}

-- each entry is added to what was read before it
abbrev pub entries : {S : Type 0} → (S → Data → Result S Wrong) → S → Items → Result S Wrong
entries step s no_items = Ok s
entries step s (item d ds) = step s d >>= λ t. entries step t ds
