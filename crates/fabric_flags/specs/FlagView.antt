-- Flags, read from the fields.
use Rattle.std.specs.Prelude.{◌≡◌, ℕ, ◌*◌, ◌^◌, ◌≤◌, Bool, false, List, length}
use Rattle.fabric_flags.specs.Set.{count_set, flags_in, is_on}
use Rattle.fabric_flags.specs.declared.flags.Flags.TheInside.{Inside}

abbrev pub view_of : Inside → List Bool
view_of flags = flags_in flags.words.items flags.len

-- there are words for all flags, and no bit is set past the last flag
pub record IsSound (flags : Inside) : Type 0 where
  pub size : flags.len ≤ 64 * length flags.words.items
  pub few : length flags.words.items ≤ 2 ^ 58
  pub past : (i : ℕ) → flags.len ≤ i → is_on flags.words.items i ≡ false
  pub counted : flags.count ≡ count_set (flags_in flags.words.items flags.len)
