-- Sources and sinks in memory, which cut and fail their calls by lists.
use Rattle.std.specs.Prelude.{ℕ, ◌+◌, ◌-◌, ◌^◌, min, max, Bool, List, length, Option, None, Some, if◌then◌else◌, nat_lt, slice_index}

-- a source: the bytes left, the lists, and the calls and faults so far
pub record Played : Type 0 where
  pub left : List ℕ
  pub cuts : List ℕ
  pub fails : List ℕ
  pub calls : ℕ
  pub faults : ℕ

-- a sink: the first `room` bytes that were written, and whether more came
pub record SinkSeen : Type 0 where
  pub bytes : List ℕ
  pub room : ℕ
  pub past : Bool
  pub cuts : List ℕ
  pub fails : List ℕ
  pub calls : ℕ
  pub faults : ℕ

-- a count that stands still at its type's end
abbrev pub risen : ℕ → ℕ
risen count = min (count + 1) (2 ^ 64 - 1)

-- how many of `most` bytes the call numbered `call` moves
abbrev pub moved_by : List ℕ → ℕ → ℕ → ℕ
moved_by cuts call most =
    if nat_lt call (length cuts) then min most (max 1 (slice_index cuts call)) else most

-- this number of bytes more is past the room
abbrev pub is_past : ℕ → List ℕ → ℕ → Bool
is_past room bytes more = nat_lt (room - length bytes) more

-- what a sink tells of the bytes written
abbrev pub told : List ℕ → Bool → Option (List ℕ)
told bytes past = if past then None else Some bytes

-- a sink that never fails: the first `room` bytes that were written, and whether more came
pub record Held : Type 0 where
  pub bytes : List ℕ
  pub room : ℕ
  pub past : Bool
