-- Registers of 32 bits, and writes to them.
use Rattle.std.specs.Prelude.{◌==◌, ◌+◌, ◌*◌, ◌/◌, ◌%◌, ◌^◌, ◌&&◌, ℕ, Bool, List, Option, Some, None, if◌then◌else◌, nat_lt, length, slice_index, slice_set, bit_and, bit_or}
use Rattle.std.specs.Int.{bit_at, bit_not, w32}
use Rattle.std.specs.List.{fold}

-- each word, and for each the mask of the bits that can be written
pub record Registers : Type 0 where
  pub words : List ℕ
  pub masks : List ℕ

abbrev pub registers : List ℕ → List ℕ → Registers
registers words masks = record { words = words; masks = masks }

-- register i stands at the address 4i
abbrev pub is_register : List ℕ → ℕ → Bool
is_register words addr = (addr % 4 == 0) && nat_lt (addr / 4) (length words)

abbrev pub word_at : List ℕ → ℕ → ℕ
word_at words addr = slice_index words (addr / 4)

abbrev pub register : List ℕ → ℕ → Option ℕ
register words addr = if is_register words addr then Some (word_at words addr) else None

-- the bits of byte j, where bit j of the enables is 1
abbrev pub lane_bits : ℕ → ℕ → ℕ
lane_bits enables j = bit_at enables j * (255 * 2 ^ (8 * j))

-- the bits of the enabled bytes
unfoldable pub enabled_bits : ℕ → ℕ
enabled_bits enables = lane_bits enables 0 + lane_bits enables 1 + lane_bits enables 2 + lane_bits enables 3

-- the bits of `gate` from the value, the others from the word
unfoldable pub merged : ℕ → ℕ → ℕ → ℕ
merged word value gate = bit_or (bit_and value gate) (bit_and word (bit_not w32 gate))

pub record Change : Type 0 where
  pub addr : ℕ
  pub value : ℕ
  pub enables : ℕ

abbrev pub change : ℕ → ℕ → ℕ → Change
change addr value enables = record { addr = addr; value = value; enables = enables }

-- the word at the address takes the value's bits where its mask and the enabled bytes both have a 1
unfoldable pub written_one : List ℕ → List ℕ → Change → List ℕ
written_one masks words w =
    if is_register words w.addr
    then slice_set words (w.addr / 4)
    (merged (word_at words w.addr) w.value (bit_and (word_at masks w.addr) (enabled_bits w.enables)))
    else words

-- the words after changes in turn
abbrev pub written : List ℕ → List ℕ → List Change → List ℕ
written masks words changes = fold (written_one masks) words changes
