-- What the proofs of other crates may cite.
pub use Rattle.fabric_net.proofs.Choosing.{NoTakings, no-takings}
