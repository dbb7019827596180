-- The exit statuses, and what the program leaves at each.
use Rattle.std.specs.Prelude.{◌≡◌, ◌⊎◌, ℕ, Bool, true, false, List, [], ◌++◌, codes, Option, None, Some, Ok, Err, IfSome}
use Rattle.block_registers.specs.Registers.{Registers}
use Rattle.rf_outside.specs.Bytes.{Adds, AddsPrefix}
use Rattle.capture_tool.specs.Outcome.{PcapTold, Told, status_of}
use Rattle.capture_tool.specs.Pcap.{pcap_listed, pcap_seen_of, pcap_status}
use Rattle.capture_tool.specs.Seen.{fault_of}
use Rattle.capture_tool.specs.Text.{checked}
use Rattle.capture_tool.specs.Listing.{listed}
use Rattle.rf_script.specs.Generated.{generated}
use Rattle.rf_script_reader.specs.Read.{IsScriptOf}
use Rattle.rf_script_types.specs.CommandText.{script_text}
use Rattle.rf_script_types.specs.declared.command.Script.{Script}
use Rattle.rf_script_types.specs.declared.fault.ScriptFault.{ScriptFault}
use Rattle.script_report.specs.Report.{report_of}
use Rattle.script_books.specs.declared.book.Book.{Book}
use Rattle.script_runner.specs.Outcome.{IsRunOutcome, told_status}
use Rattle.script_runner.specs.Performed.{IsOneThread, IsOneThreadSoFar}
use Rattle.serde_json.specs.Written.{compact_text}
use Rattle.rfnoc_cli.specs.declared.words.Form.{Form}
use Rattle.rfnoc_cli.specs.declared.words.Form.TheVariants.{RunOne, Show, Check, Pcap, Gen, GenRun}

-- a form that writes a text of its own
pub record IsWritten {K : Type 0} (written : K → Option (List ℕ)) (old new : K) (text : List ℕ) (status : ℕ) : Type 0 where
  pub known : (status ≡ 0) ⊎ (status ≡ 4) ⊎ (status ≡ 5)
  pub told : status ≡ 0 → Adds (written old) (written new) text
  pub prefix : status ≡ 4 → AddsPrefix (written old) (written new) text
  pub silent : status ≡ 5 → new ≡ old

-- `gen N`: the canonical text of the generated script, and a newline
abbrev pub generated_text : ℕ → List ℕ
generated_text n = compact_text (script_text (generated n)) ++ codes "\n"

-- `gen N --run`: the generated script, performed on one thread over these banks; no command of it is refused, and all
-- its streams are drained
pub record IsGeneratedRun {K : Type 0} (n : ℕ) (written : K → Option (List ℕ)) (before now : K)
    (books : List Book) (old new : List (Option Registers)) (status : ℕ) : Type 0 where
  pub known : (status ≡ 0) ⊎ (status ≡ 4) ⊎ (status ≡ 5)
  pub performed : (status ≡ 0) ⊎ (status ≡ 4) → IsOneThread (generated n).commands books old new
  pub whole : (status ≡ 0) ⊎ (status ≡ 4) → told_status books ≡ 0
  pub told : status ≡ 0 → Adds (written before) (written now) (report_of (generated n) (record { list = books }))
  pub torn : status ≡ 4 → AddsPrefix (written before) (written now) (report_of (generated n) (record { list = books }))
  pub begun : status ≡ 5 → (now ≡ before) × IsOneThreadSoFar (generated n).commands books

-- a form that writes this text of a capture
pub record IsCaptureOutcome (text : List ℕ → List ℕ) (left old new : Option (List ℕ)) (status : ℕ) : Type 0 where
  pub known : (status ≡ 0) ⊎ (status ≡ 3) ⊎ (status ≡ 4) ⊎ (status ≡ 5) ⊎ (status ≡ 7)
  pub told : (status ≡ 0) ⊎ (status ≡ 7) → IfSome left (λ bytes. Told text bytes status old new)
  pub prefix : (status ≡ 3) ⊎ (status ≡ 4) ⊎ (status ≡ 5) → IfSome left (λ bytes. AddsPrefix old new (text bytes))

-- `check`, which writes nothing before its one line
pub record IsCheckOutcome (left old new : Option (List ℕ)) (status : ℕ) : Type 0 where
  pub capture : IsCaptureOutcome checked left old new status
  pub silent : (status ≡ 3) ⊎ (status ≡ 5) → new ≡ old

-- `pcap PORT`, which writes the listing of a pcap file
pub record IsPcapOutcome (port : ℕ) (left old new : Option (List ℕ)) (status : ℕ) : Type 0 where
  pub known : (status ≡ 0) ⊎ (status ≡ 3) ⊎ (status ≡ 4) ⊎ (status ≡ 5) ⊎ (status ≡ 7)
  pub told : (status ≡ 0) ⊎ (status ≡ 7) → IfSome left (λ bytes. PcapTold port bytes status old new)
  pub prefix : (status ≡ 3) ⊎ (status ≡ 4) ⊎ (status ≡ 5) → IfSome left (λ bytes. AddsPrefix old new (pcap_listed port bytes))

-- of a form that performs no script no books are kept, and the banks stay
pub record KeepsNothing (books : List Book) (old new : List (Option Registers)) : Type 0 where
  pub empty : books ≡ []
  pub kept : new ≡ old

-- what each form leaves, over a source that had these bytes left, a sink before and after, and banks before and after
abbrev pub IsOutcome : {K : Type 0} → Option Form → Option (List ℕ) → (K → Option (List ℕ)) → K → K → List Book
    → List (Option Registers) → List (Option Registers) → ℕ → Type 0
IsOutcome None left written before now books old new status = status ≡ 2
IsOutcome (Some RunOne) left written before now books old new status = IsRunOutcome left written before now books old new status
IsOutcome (Some Show) left written before now books old new status =
    IsCaptureOutcome listed left (written before) (written now) status × KeepsNothing books old new
IsOutcome (Some Check) left written before now books old new status =
    IsCheckOutcome left (written before) (written now) status × KeepsNothing books old new
IsOutcome (Some (Pcap port)) left written before now books old new status =
    IsPcapOutcome port left (written before) (written now) status × KeepsNothing books old new
IsOutcome (Some (Gen n)) left written before now books old new status =
    IsWritten written before now (generated_text n) status × KeepsNothing books old new
IsOutcome (Some (GenRun n)) left written before now books old new status = IsGeneratedRun n written before now books old new status

-- the form reads nothing
abbrev pub reads_nothing : Option Form → Bool
reads_nothing None = true
reads_nothing (Some RunOne) = false
reads_nothing (Some Show) = false
reads_nothing (Some Check) = false
reads_nothing (Some (Pcap port)) = false
reads_nothing (Some (Gen n)) = true
reads_nothing (Some (GenRun n)) = true

-- bytes are a script, and its books tell the status; or they are none
abbrev pub IsScriptStatus : List ℕ → List Book → ℕ → Type 0
IsScriptStatus bytes books status =
    ((script : Script) × (IsScriptOf bytes (Ok script) × (status ≡ told_status books)))
    ⊎ ((fault : ScriptFault) × (IsScriptOf bytes (Err fault) × (status ≡ 6)))

-- the status of a form over these bytes, with these books, if neither the source nor the sink fails and memory suffices
abbrev pub IsStatus : Option Form → List ℕ → List Book → ℕ → Type 0
IsStatus None bytes books status = status ≡ 2
IsStatus (Some RunOne) bytes books status = IsScriptStatus bytes books status
IsStatus (Some Show) bytes books status = status ≡ status_of (fault_of bytes)
IsStatus (Some Check) bytes books status = status ≡ status_of (fault_of bytes)
IsStatus (Some (Pcap port)) bytes books status = status ≡ pcap_status (pcap_seen_of port bytes)
IsStatus (Some (Gen n)) bytes books status = status ≡ 0
IsStatus (Some (GenRun n)) bytes books status = status ≡ 0
