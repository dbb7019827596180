-- The laws of this crate, with their proofs, for the proofs of other crates.
use Rattle.std.proofs.Common.{ℕ, eqb, cond, refl, ap₂, ◌&&◌, inl}
use Rattle.std.specs.List.{AllByRecursion}
use Rattle.script_runner.specs.Draining.{NamesNothing}
use Rattle.script_runner.proofs.Laws.{scripts_drain}
use Rattle.generated_runs.specs.Laws.{GeneratedIsDone, GeneratedSucceeds}
use Rattle.rf_script.specs.Generated.{generated}
use Rattle.generated_runs.proofs.Whole.{generated-done}

pub generated_is_done : GeneratedIsDone
generated_is_done = generated-done

-- the run names no packet to be lost, and no other command is one
names-nothing : (n : ℕ) → AllByRecursion NamesNothing (generated n).commands
names-nothing n = assumption (tt, refl)

pub generated_succeeds : GeneratedSucceeds
generated_succeeds n books old new few one =
    ap₂ (λ r u. cond (eqb r 0 && eqb u 0) 0 1) (generated-done n books old new few one)
    (scripts_drain (generated n).commands books old new one (inl (names-nothing n)))
