-- The laws of words and payloads, for the crates above.
use Rattle.std.specs.Prelude.{◌≡◌, ℕ, suc, ◌+◌, ◌*◌, ◌<◌, ◌≤◌, ◌^◌, List, [], ◌∷◌, ◌++◌, length, get_or, take, drop, IfSome, IsTrue, Ok}
use Rattle.std.specs.List.{AllByRecursion}
use Rattle.chdr_words.specs.Field.{each_at, word_at, words_at, words_bytes}
use Rattle.chdr_words.specs.Status.{SpellsStatus, status_of, status_read}
use Rattle.chdr_words.specs.Command.{SpellsCommand, command_of, command_read}
use Rattle.chdr_words.specs.Control.{FitsControl, SpellsControl, control_bytes, control_of, control_plain, control_read, control_sized}
use Rattle.chdr_words.specs.Management.{FitsManagement, SpellsManagement, management_formed, management_of, management_plain, management_read, management_words}
use Rattle.chdr_words.specs.declared.status.Status.{Status}
use Rattle.chdr_words.specs.declared.command.Command.{Command}
use Rattle.chdr_words.specs.declared.control.Control.{Control}
use Rattle.chdr_words.specs.declared.management.Management.{Management}

-- numbers that bytes have, place by place
abbrev pub IsBytes : List ℕ → Type 0
IsBytes bytes = (i : ℕ) → get_or bytes i 0 < 256

-- numbers below a limit
abbrev pub Below : ℕ → List ℕ → Type 0
Below limit words = AllByRecursion (λ word. word < limit) words

-- the ranges that a control payload's numbers have by their types
pub record Ranged (c : Control) : Type 0 where
  pub src : c.src.0 < 2 ^ 16
  pub time : IfSome c.time (λ time. time < 2 ^ 64)
  pub words : Below (2 ^ 32) c.words

-- ---- words

-- The front of bytes is bytes.
abbrev pub FrontIsBytes : Type 0
FrontIsBytes = (n : ℕ) (bytes : List ℕ) (i : ℕ) → ((j : ℕ) → get_or bytes j 0 < 256) → get_or (take n bytes) i 0 < 256

-- A word of bytes is below 2^64.
abbrev pub WordBelow : Type 0
WordBelow = (bytes : List ℕ) (at : ℕ) → IsBytes bytes → word_at bytes at < 2 ^ 64

-- A word doesn't depend on what follows it.
abbrev pub WordAtFront : Type 0
WordAtFront = (bytes more : List ℕ) (at : ℕ) → at + 8 ≤ length bytes → word_at (bytes ++ more) at ≡ word_at bytes at

-- Nor do words.
abbrev pub WordsAtFront : Type 0
WordsAtFront = (count : ℕ) (bytes more : List ℕ) (at : ℕ) → at + 8 * count ≤ length bytes
    → words_at (bytes ++ more) at count ≡ words_at bytes at count

-- Nothing is read at no place.
abbrev pub NoneEach : Type 0
NoneEach = (read : List ℕ → ℕ → ℕ) (size : ℕ) (bytes : List ℕ) (at : ℕ) → each_at read size bytes at 0 ≡ []

-- One place more is the one behind the others.
abbrev pub MoreEach : Type 0
MoreEach = (read : List ℕ → ℕ → ℕ) (size : ℕ) (bytes : List ℕ) (at count : ℕ)
    → each_at read size bytes at (count + 1) ≡ each_at read size bytes at count ++ read bytes (at + size * count) ∷ []

-- Or the one before the others.
abbrev pub FirstEach : Type 0
FirstEach = (read : List ℕ → ℕ → ℕ) (size : ℕ) (bytes : List ℕ) (at count : ℕ)
    → each_at read size bytes at (suc count) ≡ read bytes at ∷ each_at read size bytes (at + size) count

-- As many numbers are read as there are places.
abbrev pub LengthEach : Type 0
LengthEach = (read : List ℕ → ℕ → ℕ) (size : ℕ) (bytes : List ℕ) (at count : ℕ)
    → length (each_at read size bytes at count) ≡ count

-- Words that were written are read back, wherever they stand.
abbrev pub WordsWritten : Type 0
WordsWritten = (words front rest : List ℕ) → Below (2 ^ 64) words
    → words_at (front ++ (words_bytes words ++ rest)) (length front) (length words) ≡ words

-- Bytes up to their end are the bytes of their words.
abbrev pub WordsWhole : Type 0
WordsWhole = (count : ℕ) (bytes : List ℕ) (at : ℕ) → IsBytes bytes → length bytes ≡ at + 8 * count
    → drop at bytes ≡ words_bytes (words_at bytes at count)

-- ---- payloads: what is read is spelled, and what is spelled is read, so that it is unique

-- 32 bytes spell the status that is read.
abbrev pub StatusRead : Type 0
StatusRead = (bytes : List ℕ) → length bytes ≡ 32 → SpellsStatus (status_of bytes) bytes

-- A status that is spelled is the one that is read.
abbrev pub StatusUnique : Type 0
StatusUnique = (bytes : List ℕ) (s : Status) → SpellsStatus s bytes → status_read bytes ≡ Ok s

-- 16 bytes spell the command that is read.
abbrev pub CommandRead : Type 0
CommandRead = (bytes : List ℕ) → length bytes ≡ 16 → SpellsCommand (command_of bytes) bytes

-- A command that is spelled is the one that is read.
abbrev pub CommandUnique : Type 0
CommandUnique = (bytes : List ℕ) (c : Command) → SpellsCommand c bytes → command_read bytes ≡ Ok c

-- Bytes of one of the two sizes spell the control payload that is read.
abbrev pub ControlRead : Type 0
ControlRead = (bytes : List ℕ) → IsTrue (control_sized bytes) → SpellsControl (control_of bytes) bytes

-- A control payload that is read is spelled.
abbrev pub ControlReads : Type 0
ControlReads = (bytes : List ℕ) (c : Control) → control_read bytes ≡ Ok c → SpellsControl c bytes

-- A control payload that is spelled is the one that is read.
abbrev pub ControlUnique : Type 0
ControlUnique = (bytes : List ℕ) (c : Control) → SpellsControl c bytes → control_read bytes ≡ Ok c

-- A control payload that fits has a canonical spelling.
abbrev pub ControlSpelled : Type 0
ControlSpelled = (c : Control) → FitsControl c → Ranged c
    → SpellsControl c (control_bytes c) × IsTrue (control_plain (control_bytes c))

-- Bytes that are whole hops spell the management payload that is read.
abbrev pub ManagementRead : Type 0
ManagementRead = (bytes : List ℕ) → IsBytes bytes → IsTrue (management_formed bytes)
    → SpellsManagement (management_of bytes) bytes

-- A management payload that is read is spelled.
abbrev pub ManagementReads : Type 0
ManagementReads = (bytes : List ℕ) (m : Management) → IsBytes bytes → management_read bytes ≡ Ok m
    → SpellsManagement m bytes

-- A management payload that is spelled is the one that is read.
abbrev pub ManagementUnique : Type 0
ManagementUnique = (bytes : List ℕ) (m : Management) → SpellsManagement m bytes → management_read bytes ≡ Ok m

-- A management payload that fits has a canonical spelling.
abbrev pub ManagementSpelled : Type 0
ManagementSpelled = (m : Management) → FitsManagement m → m.version < 2 ^ 16 → m.src.0 < 2 ^ 16
    → SpellsManagement m (words_bytes (management_words m)) × IsTrue (management_plain (words_bytes (management_words m)))
