-- A window over a stream of bytes: those kept from a place on, and how many are held.
use Rattle.std.specs.Prelude.{ℕ, ◌+◌, List, ◌++◌, drop, length}

-- `at` is the place of the first byte kept; `held` counts the bytes kept, and those passed that still take memory
pub record View : Type 0 where
  pub at : ℕ
  pub kept : List ℕ
  pub held : ℕ

-- a piece is appended
abbrev pub with_piece : View → List ℕ → View
with_piece v piece = record v { kept = v.kept ++ piece; held = v.held + length piece }

-- the first bytes are passed
abbrev pub passed : View → ℕ → View
passed v count = record v { at = v.at + count; kept = drop count v.kept }

-- only the bytes kept are held
abbrev pub released : View → View
released v = record v { held = length v.kept }
