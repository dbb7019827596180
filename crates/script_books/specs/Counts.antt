-- What the last line and the statuses count.
use Rattle.std.specs.Prelude.{ℕ, ◌-◌, ◌^◌, List, [], min, sum_by}
use Rattle.net_machine.specs.declared.tally.StreamEnd.{StreamEnd}
use Rattle.net_machine.specs.declared.tally.StreamEnd.TheVariants as ends
use Rattle.script_books.specs.declared.book.Book.{Book}
use Rattle.script_books.specs.declared.book.Book.TheVariants as book

-- 1 for a command that was refused
abbrev pub refused_of : Book → ℕ
refused_of (book.Refused refusal) = 1
refused_of _ = 0

-- how many commands were refused
abbrev pub refused : List Book → ℕ
refused books = sum_by refused_of books

-- the stream ends of a run
abbrev pub ends_of : Book → List StreamEnd
ends_of (book.Run run) = run.ends
ends_of (book.Twin twin) = twin.run.ends
ends_of (book.Duplex duplex) = duplex.run.ends
ends_of _ = []

-- 1 for an end that isn't drained
abbrev pub undrained_end : StreamEnd → ℕ
undrained_end ends.Drained = 0
undrained_end (ends.Broken expected got) = 1
undrained_end (ends.Undrained sent acked) = 1

abbrev pub undrained_of : Book → ℕ
undrained_of book = sum_by undrained_end (ends_of book)

-- how many stream ends of all runs aren't drained; the count stands still at its type's end
abbrev pub undrained : List Book → ℕ
undrained books = min (sum_by undrained_of books) (2 ^ 64 - 1)
