pub mod Derivation
pub mod Edges
pub mod Pairs
pub mod Ports
pub mod Reach
pub mod Refusals
pub mod Settled
pub mod State
