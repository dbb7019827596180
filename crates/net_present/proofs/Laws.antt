-- The laws of the present, for other crates' proofs to cite.
pub use Rattle.net_present.proofs.Tells.{fronts_agree, present_tells}
pub use Rattle.net_present.proofs.Follows.{present_follows}
