-- Sizes on the wire, in bytes.
use Rattle.std.specs.Prelude.{ℕ, ◌+◌, ◌*◌, ◌/◌, Option, Some, None}

-- a Length rounded up to whole words of 8 bytes
abbrev pub wire_size_of : ℕ → ℕ
wire_size_of len = (len + 7) / 8 * 8

-- a time takes one word where it is told
abbrev pub time_bytes : Option ℕ → ℕ
time_bytes None = 0
time_bytes (Some time) = 8
