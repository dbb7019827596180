-- The laws of the parts, for other crates' proofs to cite.
pub use Rattle.fabric_nodes.proofs.ShapeLaws.{shapes_tell}
