use Rattle.std.proofs.Common.{◌≡◌, ◌≤◌, take}
use Rattle.std.specs.Prelude.{sum_by}
use Rattle.script_books.specs.Counts.{undrained_end}
use Rattle.script_books.proofs.counts.undrained_ends.Given as goal

abbrev pub invariant-loop-end : goal.invariant-loop-end
invariant-loop-end l = record {
  count : l.count ≡ sum_by undrained_end (take l.end-index l.ends);
  within : l.count ≤ l.end-index;
}
