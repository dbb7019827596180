-- Bit fields of a word of 64 bits, and a word's place among bytes.
use Rattle.std.specs.Prelude.{ℕ, zero, suc, ◌+◌, ◌-◌, ◌*◌, ◌/◌, ◌%◌, ◌^◌, List, [], ◌∷◌, ◌++◌, drop}
use Rattle.std.specs.List.{flat_map}
use Rattle.std.specs.Int.{w32, w64, from_le_bytes, to_le_bytes}

-- the number that the bits hi down to lo of a word spell
abbrev pub field : ℕ → ℕ → ℕ → ℕ
field word hi lo = word / 2 ^ lo % 2 ^ (hi + 1 - lo)

-- the word with another number in these bits
abbrev pub with_field : ℕ → ℕ → ℕ → ℕ → ℕ
with_field word hi lo value = word / 2 ^ (hi + 1) * 2 ^ (hi + 1) + value * 2 ^ lo + word % 2 ^ lo

-- the word of 64 bits that stands at a place of a list of bytes
unfoldable pub word_at : List ℕ → ℕ → ℕ
word_at bytes at = from_le_bytes w64 (drop at bytes)

-- the word of 32 bits that stands at a place
unfoldable pub half_at : List ℕ → ℕ → ℕ
half_at bytes at = from_le_bytes w32 (drop at bytes)

-- what read finds at count places from one on, each size bytes behind the one before
unfoldable pub each_at : (List ℕ → ℕ → ℕ) → ℕ → List ℕ → ℕ → ℕ → List ℕ
each_at read size bytes at zero = []
each_at read size bytes at (suc count) = each_at read size bytes at count ++ read bytes (at + size * count) ∷ []

-- the count words of 64 bits from a place on, in order
abbrev pub words_at : List ℕ → ℕ → ℕ → List ℕ
words_at = each_at word_at 8

-- the count words of 32 bits from a place on, in order
abbrev pub halves_at : List ℕ → ℕ → ℕ → List ℕ
halves_at = each_at half_at 4

-- words of 64 bits as bytes
abbrev pub words_bytes : List ℕ → List ℕ
words_bytes words = flat_map (to_le_bytes w64) words

-- words of 32 bits as bytes
abbrev pub halves_bytes : List ℕ → List ℕ
halves_bytes words = flat_map (to_le_bytes w32) words
