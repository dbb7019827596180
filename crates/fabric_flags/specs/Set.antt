-- Flags, and which of them are set.
use Rattle.std.specs.Prelude.{◌≡◌, ◌==◌, ℕ, ◌/◌, ◌%◌, ◌<◌, ◌≤◌, Bool, true, false, List, map, take, slice_index, slice_index_or}
use Rattle.std.specs.Int.{bit_at}
use Rattle.std.specs.List.{count_by, range_with_len}

-- bit i of these words is 1
abbrev pub is_on : List ℕ → ℕ → Bool
is_on words i = bit_at (slice_index words (i / 64)) (i % 64) == 1

-- the flags that the first bits of these words are
abbrev pub flags_in : List ℕ → ℕ → List Bool
flags_in words len = map (is_on words) (range_with_len 0 len)

-- flag i; past the end none is set
abbrev pub flag_at : List Bool → ℕ → Bool
flag_at flags i = slice_index_or flags i false

-- how many flags are set
abbrev pub count_set : List Bool → ℕ
count_set flags = count_by (λ flag. flag) flags

-- i is the first place from n on that is on
pub record IsNext (on : ℕ → Bool) (n i : ℕ) : Type 0 where
  pub from : n ≤ i
  pub here : on i ≡ true
  pub none : (j : ℕ) → n ≤ j → j < i → on j ≡ false

-- no place from n on is on
abbrev pub NoneFrom : (ℕ → Bool) → ℕ → Type 0
NoneFrom on n = (j : ℕ) → n ≤ j → on j ≡ false

-- this flag is set, and n flags before it
pub record IsNth (flags : List Bool) (n i : ℕ) : Type 0 where
  pub is_set : flag_at flags i ≡ true
  pub before : count_set (take i flags) ≡ n
