-- Samples as the bytes of their numbers.
use Rattle.std.specs.Prelude.{ℕ, List}
use Rattle.std.specs.Int.{bytes_low_first}
use Rattle.std.specs.List.{flat_map, range_with_len}

-- the sample of a number: its lowest `item` bytes, the least first
abbrev pub sample : ℕ → ℕ → List ℕ
sample item number = bytes_low_first 0 item number

-- `count` samples in a row, from number `first` on
abbrev pub samples_from : ℕ → ℕ → ℕ → List ℕ
samples_from item first count = flat_map (sample item) (range_with_len first count)
