use Rattle.std.proofs.Common.{◌≡◌, ◌≤◌, take}
use Rattle.std.specs.Prelude.{sum_by}
use Rattle.script_books.specs.Counts.{refused_of}
use Rattle.script_books.proofs.counts.refused.Given as goal

abbrev pub invariant-loop-book : goal.invariant-loop-book
invariant-loop-book l = record {
  count : l.count ≡ sum_by refused_of (take l.book-index l.books);
  within : l.count ≤ l.book-index;
}
