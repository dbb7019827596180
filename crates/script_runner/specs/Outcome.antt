-- The exit statuses of a script that one thread performs, and what is left at each.
use Rattle.std.specs.Prelude.{◌≡◌, ◌⊎◌, ℕ, ◌==◌, ◌&&◌, List, [], Option, Ok, Err, IfSome, if◌then◌else◌}
use Rattle.block_registers.specs.Registers.{Registers}
use Rattle.rf_outside.specs.Bytes.{Adds, AddsPrefix}
use Rattle.rf_script_reader.specs.Read.{IsScriptOf}
use Rattle.rf_script_types.specs.declared.command.Script.{Script}
use Rattle.rf_script_types.specs.declared.fault.ScriptFault.{ScriptFault}
use Rattle.script_books.specs.Counts.{refused, undrained}
use Rattle.script_report.specs.Report.{report_of}
use Rattle.script_books.specs.declared.book.Book.{Book}
use Rattle.script_runner.specs.FaultLines.{fault_line}
use Rattle.script_runner.specs.Performed.{IsOneThread, IsOneThreadSoFar}

-- what a source had left, where it tells, is this script
abbrev pub IsGiven : Option (List ℕ) → Script → Type 0
IsGiven left script = IfSome left (λ bytes. IsScriptOf bytes (Ok script))

-- it is none, for this cause
abbrev pub IsFaulty : Option (List ℕ) → ScriptFault → Type 0
IsFaulty left fault = IfSome left (λ bytes. IsScriptOf bytes (Err fault))

-- 1 if a command was refused or a stream isn't drained, else 0
abbrev pub told_status : List Book → ℕ
told_status books = if refused books == 0 && undrained books == 0 then 0 else 1

-- its report was written
pub record IsTold (left : Option (List ℕ)) (before now : Option (List ℕ)) (books : List Book) (old new : List (Option Registers)) (status : ℕ) : Type 0 where
  pub script : Script
  pub given : IsGiven left script
  pub one_thread : IsOneThread script.commands books old new
  pub added : Adds before now (report_of script (record { list = books }))
  pub tells : status ≡ told_status books

-- a first part of its report was written
pub record IsTornReport (left : Option (List ℕ)) (before now : Option (List ℕ)) (books : List Book) (old new : List (Option Registers)) : Type 0 where
  pub script : Script
  pub given : IsGiven left script
  pub one_thread : IsOneThread script.commands books old new
  pub added : AddsPrefix before now (report_of script (record { list = books }))

-- what was read is no script, and its fault's line was written, or a first part of it
pub record IsFault (left : Option (List ℕ)) (added : List ℕ → Type 0) (books : List Book) (old new : List (Option Registers)) : Type 0 where
  pub fault : ScriptFault
  pub given : IsFaulty left fault
  pub line : added (fault_line fault)
  pub empty : books ≡ []
  pub kept : new ≡ old

-- memory ran out before a command was performed, or the books are those of the first commands
pub record IsBegun (left : Option (List ℕ)) (books : List Book) : Type 0 where
  pub script : Script
  pub given : IsGiven left script
  pub so_far : IsOneThreadSoFar script.commands books

-- nothing was performed
pub record IsUntouched (books : List Book) (old new : List (Option Registers)) : Type 0 where
  pub empty : books ≡ []
  pub kept : new ≡ old

-- over a source that had these bytes left, a sink before and after, and banks before and after
pub record IsRunOutcome {K : Type 0} (left : Option (List ℕ)) (written : K → Option (List ℕ)) (before now : K)
    (books : List Book) (old new : List (Option Registers)) (status : ℕ) : Type 0 where
  pub known : (status ≡ 0) ⊎ (status ≡ 1) ⊎ (status ≡ 3) ⊎ (status ≡ 4) ⊎ (status ≡ 5) ⊎ (status ≡ 6)
  pub told : (status ≡ 0) ⊎ (status ≡ 1) → IsTold left (written before) (written now) books old new status
  pub unread : status ≡ 3 → IsUntouched books old new × (now ≡ before)
  pub torn : status ≡ 4 → IsTornReport left (written before) (written now) books old new
      ⊎ IsFault left (AddsPrefix (written before) (written now)) books old new
  pub begun : status ≡ 5 → (now ≡ before) × ((books ≡ []) ⊎ IsBegun left books)
  pub refused : status ≡ 6 → IsFault left (Adds (written before) (written now)) books old new
