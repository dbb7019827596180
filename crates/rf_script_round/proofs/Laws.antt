-- The laws of this crate, for proofs of other crates to cite.
pub use Rattle.rf_script_round.proofs.ScriptBack.{script-back}
pub use Rattle.rf_script_round.proofs.TextBack.{text_back}
