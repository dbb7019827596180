-- Nothing of the generated script is refused.
use Rattle.std.specs.Prelude.{◌≡◌, ℕ, ◌≤◌, List, Option}
use Rattle.block_registers.specs.Registers.{Registers}
use Rattle.script_books.specs.Counts.{refused}
use Rattle.script_books.specs.declared.book.Book.{Book}
use Rattle.script_runner.specs.Outcome.{told_status}
use Rattle.script_runner.specs.Performed.{IsOneThread}
use Rattle.rf_script.specs.Generated.{generated}

-- none of the commands of the generated script is refused
abbrev pub GeneratedIsDone : Type 0
GeneratedIsDone = (n : ℕ) (books : List Book) (old new : List (Option Registers)) → n ≤ 16384
    → IsOneThread (generated n).commands books old new → refused books ≡ 0

-- so, as its streams drain, its books tell status 0
abbrev pub GeneratedSucceeds : Type 0
GeneratedSucceeds = (n : ℕ) (books : List Book) (old new : List (Option Registers)) → n ≤ 16384
    → IsOneThread (generated n).commands books old new → told_status books ≡ 0
