-- The laws of this crate, for proofs of other crates to cite.
pub use Rattle.script_worlds.proofs.Alike.{alike_plan_the_same, next_is_one}
