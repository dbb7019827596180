-- The laws of this crate, for proofs of other crates to cite.
pub use Rattle.rf_script_fits.proofs.ScriptFits.{script-fits}
pub use Rattle.rf_script_fits.proofs.TextFits.{text_fits, answer_fits}
