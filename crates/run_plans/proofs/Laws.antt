-- The laws of specs/Laws, with their proofs, for the proofs of other crates.
pub use Rattle.run_plans.proofs.Refused.{refused_blocks, refused_plans, refused_streams}
pub use Rattle.run_plans.proofs.Unrefused.{unrefused_plans}
