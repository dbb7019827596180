use Rattle.std.proofs.Common.{◌≡◌, ◌-◌, ◌^◌, take, min}
use Rattle.std.specs.Prelude.{sum_by}
use Rattle.script_books.specs.Counts.{undrained_of}
use Rattle.script_books.proofs.counts.undrained.Given as goal

abbrev pub invariant-loop-book : goal.invariant-loop-book
invariant-loop-book l = l.count ≡ min (sum_by undrained_of (take l.book-index l.books)) (2 ^ 64 - 1)
