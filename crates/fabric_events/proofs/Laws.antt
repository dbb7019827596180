-- The laws of specs/, and what the parts tell of their numbers, for the proofs of other crates.
pub use Rattle.fabric_events.proofs.BegunLaws.{begun_is_now, built_is_now}
pub use Rattle.fabric_events.proofs.FrontLemmas.{front_of_stream, node_count, shape_there, tx_there}
