-- The laws of this crate, for proofs of other crates to cite.
pub use Rattle.block_registers.proofs.RequestLemmas.{words-after_all, writes_are_folded}
pub use Rattle.block_registers.proofs.CallLemmas.{each_slot_sees_its_own, answers_go_on}
