-- The laws of scripts, with their proofs, for the proofs of other crates.
use Rattle.script_runner.specs.Draining.{ScriptsDrain}
use Rattle.script_runner.proofs.Draining.{scripts-drain}

pub scripts_drain : ScriptsDrain
scripts_drain = scripts-drain
